pub mod Outcome
pub mod None
