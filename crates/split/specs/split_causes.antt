-- The definitions of what a split is lent and of its causes before the walk.
pub mod Causes
pub mod Lent
