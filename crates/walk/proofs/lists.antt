-- The laws of the lists of uses by vertex.
pub mod Counts
pub mod Members
pub mod Chains
pub mod Entries
