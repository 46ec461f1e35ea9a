mod RunLemmas
pub mod BranchLemmas
pub mod WrittenLemmas
