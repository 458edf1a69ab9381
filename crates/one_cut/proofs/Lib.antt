-- The laws of one cut.
pub mod Laws
pub mod Once
pub mod Outcome
pub mod Preparations
pub mod Reading
