pub mod AttrLemmas
pub mod CodeLemmas
pub mod RowLemmas
pub mod TableLemmas
