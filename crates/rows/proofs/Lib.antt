pub mod Same
pub mod Each
pub mod Room
pub mod Totals
