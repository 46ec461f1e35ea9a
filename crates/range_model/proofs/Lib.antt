mod Examples
pub mod EntryLemmas
pub mod ListLemmas
