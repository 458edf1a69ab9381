-- The definitions that the marks and the walk over them cite.
pub mod Marks
pub mod Walking
