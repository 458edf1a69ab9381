pub mod Given
pub mod Accepted
