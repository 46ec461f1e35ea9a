pub mod Pair
pub mod Table
pub mod Tally
pub mod Laws
