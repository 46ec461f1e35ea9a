pub mod Sections
pub mod Tables
pub mod Shared
pub mod Binary
pub mod Laws
