pub mod Reached
pub mod Drawn
pub mod internal
