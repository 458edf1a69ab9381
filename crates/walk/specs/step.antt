-- The definitions that one step of the walk cites.
pub mod Arrival
