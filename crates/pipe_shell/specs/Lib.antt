-- What a host would supply for the pipe.
pub mod Projected
