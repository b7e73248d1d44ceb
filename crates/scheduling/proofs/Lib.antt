-- Laws of the seats' places, of lengths that add up, and of the search.
pub mod Finding
pub mod Numbers
pub mod Sums
