mod Examples
pub mod RowLemmas
pub mod PushLemmas
pub mod NetLemmas
pub mod CutLemmas
pub mod CostLemmas
pub mod CoarseLemmas
