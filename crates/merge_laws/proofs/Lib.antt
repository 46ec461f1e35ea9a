pub mod GoodLemmas
pub mod SumLemmas
