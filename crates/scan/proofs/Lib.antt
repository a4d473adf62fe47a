pub mod Scans
pub mod Plain
