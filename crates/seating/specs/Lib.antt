pub mod Reports
pub mod internal
