-- Laws of steps and runs.
pub mod Attempt
pub mod Counts
pub mod Kept
pub mod MovClears
pub mod NeverFull
pub mod Promises
pub mod Runs
pub mod Stops
pub mod Traces
