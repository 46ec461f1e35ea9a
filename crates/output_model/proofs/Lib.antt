mod Examples
pub mod SummaryLemmas
