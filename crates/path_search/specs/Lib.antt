pub mod Ground
pub mod Search
pub mod Task
pub mod Ways
pub mod Found
pub mod Tight
pub mod Path
pub mod Trace
