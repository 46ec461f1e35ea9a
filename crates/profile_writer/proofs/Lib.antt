pub mod BranchLemmas
pub mod ClassLemmas
pub mod CountLemmas
pub mod OutputLemmas
pub mod RanLemmas
pub mod SumLemmas
