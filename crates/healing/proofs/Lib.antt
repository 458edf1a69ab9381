-- The law of the split's export.
pub mod Demand
pub mod Within
