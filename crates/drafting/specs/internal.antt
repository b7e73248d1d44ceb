-- Definitions that only contracts of internal functions cite; no promise to a user rests on them.
pub mod Writing
