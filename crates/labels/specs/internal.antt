-- Definitions that only contracts of our own functions cite; no promise to a user rests on them.
pub mod Search
pub mod Turns
