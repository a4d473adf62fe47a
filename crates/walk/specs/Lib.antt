pub mod Index
pub mod Placing
