pub mod Held
pub mod Largest
pub mod Laws
pub mod Lift
pub mod Spans
pub mod Stated
