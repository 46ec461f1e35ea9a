pub mod Function
pub mod Judging
pub mod Limits
pub mod Line
pub mod Text
