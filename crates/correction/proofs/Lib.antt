pub mod Accepted
pub mod Tests
