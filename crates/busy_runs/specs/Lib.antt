pub mod Busy
pub mod Lines
pub mod internal
