-- Laws that belong to no one function.
pub mod Listed
pub mod Promises
pub mod Widths
