pub mod Items
pub mod Profile
pub mod Told
