pub mod RepairLemmas
pub mod BuiltLemmas
pub mod SummaryLemmas
