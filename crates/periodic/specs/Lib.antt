pub mod Unwrap
pub mod Copies
pub mod host_numbers
