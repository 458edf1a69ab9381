pub mod Places
pub mod Held
pub mod wires
