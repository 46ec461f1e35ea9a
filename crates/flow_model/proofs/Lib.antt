mod Examples
pub mod CirculationLemmas
pub mod PriceLemmas
pub mod LawLemmas
mod BalanceExamples
pub mod ArcLemmas
pub mod NetLemmas
pub mod BalanceLemmas
pub mod NumberLemmas
pub mod PassLemmas
pub mod LimitLemmas
