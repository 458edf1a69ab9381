pub mod Wires
pub mod Wiring
pub mod Mending
