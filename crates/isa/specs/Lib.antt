pub mod Decode
pub mod Encode
pub mod Facts
pub mod Free
pub mod RoundTrip
pub mod Table
