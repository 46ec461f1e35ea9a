pub mod Contexts
pub mod Paths
pub mod Parts
pub mod Maps
pub mod Asked
