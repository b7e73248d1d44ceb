pub mod Calls
pub mod Demanded
pub mod Meetings
