pub mod Keeps
pub mod Contract
pub mod Lent
pub mod parameter
pub mod cut_edge
pub mod mending
