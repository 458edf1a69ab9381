pub mod Refused
pub mod Sorting
