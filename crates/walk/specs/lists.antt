-- The definitions that the lists of uses by vertex cite.
pub mod Members
pub mod Ends
pub mod Lists
