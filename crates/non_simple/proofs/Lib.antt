-- The laws of the search over all wires, and of its answer.
pub mod Scanning
pub mod Laws
