pub mod Program
pub mod internal
