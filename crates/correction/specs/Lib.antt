pub mod Correction
pub mod Lent
pub mod nearest
