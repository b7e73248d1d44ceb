pub mod Numbering
pub mod SheetBytes
pub mod Entering
