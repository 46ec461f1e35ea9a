pub mod CursorLemmas
mod Examples
pub mod HeaderLemmas
pub mod ListLemmas
pub mod LoadLemmas
pub mod LoadLineLemmas
pub mod ProgramLemmas
pub mod RangeLemmas
pub mod SequenceLemmas
pub mod UnitLemmas
