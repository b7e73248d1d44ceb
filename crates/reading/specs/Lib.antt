pub mod Reading
pub mod internal
