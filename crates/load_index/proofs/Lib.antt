mod Examples
pub mod OffsetLemmas
pub mod SpanLemmas
