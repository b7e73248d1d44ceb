-- Definitions that only contracts of internal functions cite; no promise to a user rests on them.
pub mod Cells
pub mod Demands
pub mod Visits
pub mod Drafts
pub mod Impossible
