pub mod Columns
pub mod Page
pub mod Text
