pub mod Sequence
pub mod Sons
pub mod Start
