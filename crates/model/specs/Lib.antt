pub mod AfterMov
pub mod Plan
pub mod Run
pub mod RunPromise
pub mod State
pub mod Step
pub mod Time
