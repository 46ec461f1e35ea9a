pub mod RefineLemmas
pub mod CoarseLemmas
pub mod HalvedLemmas
mod Examples
