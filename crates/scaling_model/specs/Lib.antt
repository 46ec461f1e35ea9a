pub mod Bound
pub mod Coarse
pub mod Laws
pub mod Refining
