-- Laws that belong to no one function, for every crate to cite.
pub mod Arms
pub mod Below
pub mod Bools
pub mod Checks
pub mod Filling
pub mod Lookup
pub mod Padded
pub mod Parts
pub mod Tables
