pub mod Nearness
pub mod Rounds
