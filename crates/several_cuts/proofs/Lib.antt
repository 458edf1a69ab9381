pub mod Outcome
pub mod Uses
pub mod Pieces
pub mod Numbers
pub mod Laws
pub mod Calls
