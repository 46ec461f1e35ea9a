pub mod Bases
pub mod Pieces
pub mod Origin
pub mod Way
pub mod Depths
pub mod Laws
pub mod Members
pub mod Tree
