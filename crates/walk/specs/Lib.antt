pub mod Walk
pub mod Table
pub mod Claim
pub mod Examples
pub mod Answered
pub mod lists
pub mod marks
pub mod step
