pub mod AddLemmas
mod ClassExamples
pub mod RangeLemmas
mod Examples
pub mod ReportLemmas
