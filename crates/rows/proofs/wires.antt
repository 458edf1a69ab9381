-- The laws of turned wires and of wires whose uses are replaced.
pub mod Turns
pub mod Replaced
pub mod Copying
mod Places
pub mod Indexed
