-- Laws that belong to no one function.
pub mod Alignment
pub mod Decimal
pub mod Pages
