pub mod Entries
pub mod Numerals
pub mod Rows
pub mod Runs
