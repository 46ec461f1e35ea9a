pub mod CursorLemmas
pub mod EntryLemmas
pub mod OrderLemmas
pub mod TableLemmas
pub mod ValueLemmas
