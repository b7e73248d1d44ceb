-- What admission gives, and the third demand.
pub mod AdmittedRules
pub mod Answers
pub mod CheckLists
pub mod ClassActs
pub mod Frames
pub mod Invariant
pub mod ListedCalls
pub mod Noninterference
pub mod SafeRuns
pub mod Scanning
pub mod SettlesMore
pub mod Tests
pub mod ThirdDemand
