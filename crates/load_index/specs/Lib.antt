pub mod Offsets
pub mod Spans
