pub mod Branches
pub mod ClassLaws
pub mod Ranges
pub mod Laws
pub mod Report
