pub mod Loads
pub mod Reader
pub mod Text
