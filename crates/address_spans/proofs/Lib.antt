pub mod FrameLemmas
pub mod OverlayLemmas
pub mod SearchLemmas
pub mod SpanLemmas
