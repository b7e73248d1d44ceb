-- Laws that belong to no one function.
pub mod DeskTexts
pub mod Printed
pub mod RunEnds
