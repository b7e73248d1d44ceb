pub mod Hindrances
pub mod Passing
