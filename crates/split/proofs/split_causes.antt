-- What a split without a cause before the walk is lent.
pub mod Accepted
pub mod Tests
