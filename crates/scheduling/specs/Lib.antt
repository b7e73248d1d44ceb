pub mod Numbers
pub mod internal
