pub mod Entries
pub mod Loops
