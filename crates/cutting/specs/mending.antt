pub mod Parts
pub mod Replace
pub mod Steps
