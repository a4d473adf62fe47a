pub mod Meeting
pub mod OneOfFour
