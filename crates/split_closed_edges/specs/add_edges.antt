pub mod Add
pub mod Steps
