pub mod Answer
pub mod Stopping
