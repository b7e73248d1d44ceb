pub mod Cuts
pub mod Indexes
pub mod Inspects
pub mod Names
pub mod Numbered
pub mod Searches
pub mod Sizes
