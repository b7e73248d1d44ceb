-- Laws that belong to no one function.
pub mod Assigned
pub mod Banks
pub mod DecodeEncode
pub mod EncodeDecode
pub mod Promises
pub mod Refusals
