-- Definitions that only contracts of the step's own functions cite; no promise to a user rests on them.
pub mod Branches
