pub mod Choices
pub mod Copies
pub mod Laws
pub mod Refused
