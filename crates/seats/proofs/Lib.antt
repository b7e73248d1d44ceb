-- Laws of seats and turns, and what is promised of them.
pub mod AloneRuns
pub mod Begins
pub mod FairTurns
pub mod Promises
pub mod PutBack
pub mod RestOfRoll
pub mod Rounds
pub mod SeatRuns
pub mod TurnCases
