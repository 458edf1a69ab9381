-- The laws of the split.
pub mod Fronts
pub mod Demand
pub mod Reading
pub mod Storing
pub mod Outcome
