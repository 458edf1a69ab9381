-- The definitions of turned, connected and closed wires.
pub mod Turn
pub mod Connected
