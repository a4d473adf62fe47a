pub mod Rows
pub mod Slots
pub mod Gathered
pub mod Sound
pub mod Lent
