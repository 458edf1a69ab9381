pub mod Edges
pub mod Adding
pub mod Marking
pub mod NumberRows
