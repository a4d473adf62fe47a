pub mod Walk
pub mod Answering
pub mod Found
