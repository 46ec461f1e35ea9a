pub mod Bounds
pub mod Laws
pub mod Loads
pub mod Residual
