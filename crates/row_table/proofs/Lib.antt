pub mod CutLemmas
pub mod IndexLemmas
pub mod LastLemmas
pub mod SequenceLemmas
