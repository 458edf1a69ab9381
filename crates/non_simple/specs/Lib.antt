-- The definitions that the contract of the search cites, with worked examples.
pub mod Search
pub mod Examples
pub mod divisor
pub mod loops
