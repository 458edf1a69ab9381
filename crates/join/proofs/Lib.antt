-- The laws of the joining call.
pub mod Connecting
pub mod Causes
pub mod Accepted
pub mod Laws
pub mod Reading
