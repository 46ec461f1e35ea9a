pub mod EntryLemmas
mod Examples
pub mod JudgingLemmas
pub mod PairLemmas
pub mod MoveLemmas
