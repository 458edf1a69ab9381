-- The definitions that the crate's contracts cite, with worked examples.
pub mod Exact
pub mod Examples
