mod Examples
pub mod TableLemmas
mod TallyExamples
pub mod OrderLemmas
pub mod TallyLemmas
