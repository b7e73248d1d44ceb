pub mod Storing
pub mod Counts
pub mod Lines
pub mod Bytes
pub mod Validity
