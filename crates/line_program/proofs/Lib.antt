pub mod OpcodeLemmas
pub mod RowLemmas
pub mod TableLemmas
