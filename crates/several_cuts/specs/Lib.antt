-- The definitions that the contract of several cuts cites, and what the cuts keep.
pub mod Contract
pub mod Mothers
