pub mod Ranks
pub mod Told
pub mod Lists
pub mod Pairs
pub mod Rows
pub mod Ways
pub mod Laws
pub mod Segments
