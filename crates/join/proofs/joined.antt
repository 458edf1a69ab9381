pub mod Replacing
pub mod Joining
