pub mod AtSeat
pub mod Room
pub mod RoomPromise
pub mod Turn
pub mod TurnLists
pub mod internal
