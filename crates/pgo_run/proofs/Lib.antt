pub mod BuildLemmas
pub mod CheckLemmas
pub mod MakeLemmas
pub mod MergeLemmas
