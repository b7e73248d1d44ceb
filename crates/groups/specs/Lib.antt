pub mod Faults
pub mod Fields
pub mod Groups
pub mod Shortest
pub mod internal
