-- The definitions that the contract of one cut cites, with worked examples.
pub mod Cut
pub mod Pieces
pub mod Contract
pub mod Examples
