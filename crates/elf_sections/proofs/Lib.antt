mod Examples
pub mod EntryLemmas
pub mod Items
pub mod Texts
pub mod ReachLemmas
