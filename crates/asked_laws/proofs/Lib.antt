pub mod BuildLemmas
pub mod ColdLemmas
pub mod CountLemmas
pub mod LiftLemmas
pub mod ListLemmas
pub mod ProfileLemmas
pub mod ReportLemmas
