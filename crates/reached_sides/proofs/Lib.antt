pub mod NearnessLemmas
pub mod RoundLemmas
pub mod RowLemmas
