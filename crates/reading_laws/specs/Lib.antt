pub mod Headers
pub mod Lists
pub mod LoadLines
pub mod Loads
pub mod Programs
pub mod Ranges
pub mod Sequences
pub mod Units
