pub mod Assemble
pub mod internal
