pub mod Placed
pub mod Asked
pub mod Seats
pub mod Ways
