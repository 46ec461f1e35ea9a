pub mod JudgeLemmas
pub mod WayLemmas
