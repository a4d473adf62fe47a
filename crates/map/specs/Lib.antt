pub mod Promise
pub mod Steps
pub mod Unique
