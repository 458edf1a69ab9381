pub mod Divided
pub mod Wires
