pub mod AllValid
pub mod Printed
