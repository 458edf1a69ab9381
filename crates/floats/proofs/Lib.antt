-- Values and their order, the laws of rounding, and those of the bound, of the midpoint and of the squared distance.
pub mod Value
pub mod Rounds
pub mod Bounds
pub mod Mono
pub mod Sized
pub mod Middle
pub mod Eighths
pub mod Distance
