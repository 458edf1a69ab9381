-- The laws of the vertices on the divisor and of the seams.
pub mod Repeats
pub mod Adding
