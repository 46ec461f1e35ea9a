pub mod Classed
pub mod Told
