pub mod AnswerLemmas
pub mod BlockLemmas
pub mod CheckedLemmas
mod ColdLemmas
mod CommentLemmas
pub mod EntryLemmas
pub mod LineLemmas
mod MergedLemmas
pub mod NameLemmas
mod OrderLemmas
pub mod RepairLemmas
