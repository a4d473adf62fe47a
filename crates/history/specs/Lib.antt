pub mod Demand
pub mod Refusals
