pub mod Answered
pub mod Desk
pub mod Printed
