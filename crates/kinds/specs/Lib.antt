pub mod Told
pub mod Detail
