pub mod Levels
pub mod Owners
pub mod Laws
pub mod Stretches
pub mod Asked
