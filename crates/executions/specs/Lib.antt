pub mod Executed
pub mod internal
