pub mod Busier
pub mod Ranking
pub mod internal
