pub mod Fronts
pub mod InRange
pub mod OneRow
pub mod Scans
pub mod Seeks
