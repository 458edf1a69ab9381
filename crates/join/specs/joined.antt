pub mod Joined
pub mod Outcome
pub mod Steps
