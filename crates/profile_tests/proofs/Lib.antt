pub mod RangeLemmas
pub mod StatedLemmas
