pub mod Fronts
pub mod LebLemmas
pub mod Spellings
pub mod TextLemmas
pub mod Examples
