pub mod Within
pub mod Room
pub mod Outcome
pub mod Reading
pub mod Keeping
pub mod Preparations
