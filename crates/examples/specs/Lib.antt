pub mod Listings
pub mod Marked
pub mod MovListings
