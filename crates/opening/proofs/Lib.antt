pub mod AddressesFilled
pub mod ListFilled
pub mod Outcomes
