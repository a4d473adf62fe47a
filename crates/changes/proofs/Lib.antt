pub mod Puts
pub mod Inserts
pub mod Takes
