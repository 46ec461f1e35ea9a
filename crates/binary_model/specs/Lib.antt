pub mod Sections
pub mod LinePrograms
pub mod Binary
pub mod Places
pub mod Told
pub mod Addresses
