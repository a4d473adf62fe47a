pub mod Asked
pub mod Mapping
