pub mod Pass
pub mod Steps
pub mod Contract
pub mod add_edges
