-- Laws of the codec, for every crate to cite.
pub mod Fields
pub mod Groups
pub mod Lengths
pub mod Places
pub mod Putting
pub mod Readings
pub mod Rows
pub mod Shortest
