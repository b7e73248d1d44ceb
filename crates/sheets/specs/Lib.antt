pub mod Grounds
pub mod internal
