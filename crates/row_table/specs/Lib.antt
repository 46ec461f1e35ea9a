pub mod Index
pub mod Told
