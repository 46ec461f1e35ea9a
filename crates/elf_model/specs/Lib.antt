pub mod Fields
pub mod Tables
pub mod Sections
pub mod Segments
pub mod Items
pub mod Laws
