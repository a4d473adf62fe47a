pub mod Filling
pub mod Descent
