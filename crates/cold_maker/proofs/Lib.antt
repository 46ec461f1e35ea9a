pub mod BesidesLemmas
pub mod ColdLemmas
