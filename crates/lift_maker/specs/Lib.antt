pub mod Lift
pub mod Placed
pub mod Tested
