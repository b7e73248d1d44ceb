pub mod Lines
pub mod Labels
pub mod internal
