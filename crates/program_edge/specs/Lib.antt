pub mod BranchText
pub mod Halt
pub mod Opens
pub mod Output
pub mod Run
pub mod Samples
pub mod Status
