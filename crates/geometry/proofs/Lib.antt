pub mod RangeCases
pub mod TurnWithin
