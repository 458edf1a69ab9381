pub mod Laying
pub mod Rows
pub mod Counting
pub mod Inserting
pub mod Lengths
pub mod Held
pub mod Mending
pub mod Wrapping
