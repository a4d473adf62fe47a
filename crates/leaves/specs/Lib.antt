pub mod Pass
pub mod Read
pub mod Exact
pub mod Fans
pub mod Sides
pub mod Parting
