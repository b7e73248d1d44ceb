-- Laws of shelf files, for the crates above to cite.
pub mod Columns
pub mod Examples
pub mod Least
pub mod Numbers
pub mod OpenedFile
pub mod Parts
pub mod Promised
pub mod Short
pub mod Sizes
pub mod WrittenOpens
