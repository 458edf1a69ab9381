-- The definitions of several cuts of one edge, and what the calls that make them share.
pub mod Cut
pub mod Contract
pub mod laying
pub mod cuts
