pub mod Judging
pub mod Laws
pub mod Limits
pub mod Line
pub mod Loads
pub mod Moves
pub mod Pairs
pub mod Samples
