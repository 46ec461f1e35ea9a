pub mod Answer
pub mod Excess
pub mod Level
pub mod Solved
pub mod State
