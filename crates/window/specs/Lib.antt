pub mod Means
pub mod Parts
pub mod Seen
pub mod Listed
