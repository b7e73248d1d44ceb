-- Laws that belong to no one function.
pub mod AllForms
pub mod Answers
pub mod Bytes
pub mod Filling
pub mod OwnRow
pub mod Plain
pub mod RoundTrip
pub mod ValidFields
pub mod Widths
