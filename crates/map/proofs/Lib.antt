pub mod Ends
pub mod Shows
pub mod Locates
