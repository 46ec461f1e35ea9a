pub mod Joins
pub mod Sizes
