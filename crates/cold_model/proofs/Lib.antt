mod Examples
pub mod ColdLemmas
