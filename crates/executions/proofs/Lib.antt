-- Laws that belong to no one function.
pub mod Counting
pub mod Steps
