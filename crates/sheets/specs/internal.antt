-- Definitions that only contracts of our own functions cite; no promise to a user rests on them.
pub mod Tests
pub mod Words
