-- Laws that belong to no one function.
pub mod AtAddress
pub mod Callees
pub mod ClassGrounds
