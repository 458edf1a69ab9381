pub mod Outcome
pub mod Laws
pub mod Reading
pub mod Preparations
