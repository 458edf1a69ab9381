pub mod Buffers
pub mod Floats
pub mod Lent
