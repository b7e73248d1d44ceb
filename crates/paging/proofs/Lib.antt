-- Laws that belong to no one function.
pub mod Forms
pub mod Line
pub mod PageLoop
