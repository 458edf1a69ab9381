-- The laws of the marks and of the walk over them.
pub mod Marks
pub mod Walking
