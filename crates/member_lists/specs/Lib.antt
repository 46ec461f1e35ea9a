pub mod Collecting
pub mod Frames
pub mod Laws
