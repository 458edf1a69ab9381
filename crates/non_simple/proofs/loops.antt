-- The laws of the search for a repeated edge.
pub mod Search
pub mod Repeats
pub mod Places
