-- The definitions that the contracts of the joining call cite, with worked examples.
pub mod Join
pub mod Contract
pub mod Lent
pub mod Examples
pub mod joined
pub mod laying
