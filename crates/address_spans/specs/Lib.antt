pub mod Overlay
pub mod Spans
