-- Laws of two calls, one after the other, and what the contract of a split rules out of K10.
pub mod Calls
pub mod Wrong
