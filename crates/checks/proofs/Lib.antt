pub mod Lowest
pub mod Numbers
pub mod Sound
pub mod Accepted
pub mod Lying
pub mod Small
