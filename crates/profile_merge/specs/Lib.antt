pub mod Called
pub mod Functions
pub mod Hot
pub mod Laws
pub mod Row
pub mod Stated
pub mod Sums
pub mod Told
