-- The definitions that the vertices on the divisor and the seams cite.
pub mod Seams
pub mod Stops
