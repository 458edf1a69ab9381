-- The definitions that the contract of the split cites, with worked examples.
pub mod Split
pub mod Contract
pub mod Steps
pub mod Demand
pub mod Reading
pub mod Examples
pub mod Left
pub mod seams
pub mod split_causes
