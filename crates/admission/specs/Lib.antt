pub mod Admission
pub mod internal
