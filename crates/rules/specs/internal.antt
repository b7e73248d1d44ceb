-- Definitions that only contracts of admission's internal functions cite; no promise to a user rests on them.
pub mod Scans
