pub mod Among
pub mod Each
pub mod Sums
pub mod Tests
