pub mod Told
pub mod Promised
