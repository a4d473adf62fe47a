pub mod Changing
pub mod Steps
pub mod Restoring
