pub mod Print
pub mod Shown
