pub mod Fields
pub mod Laws
pub mod LineTests
pub mod Lines
pub mod Numbers
