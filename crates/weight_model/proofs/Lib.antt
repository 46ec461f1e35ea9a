mod Examples
pub mod WeightLemmas
