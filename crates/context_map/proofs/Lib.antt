pub mod AskLemmas
pub mod NameLemmas
pub mod ParentLemmas
pub mod CutLemmas
pub mod PartLemmas
pub mod UsedLemmas
pub mod MapLemmas
pub mod PartsLemmas
