-- Laws of a seat's run over the shared buffers, and of the outcome of a turn.
pub mod Outcomes
pub mod SeatParts
