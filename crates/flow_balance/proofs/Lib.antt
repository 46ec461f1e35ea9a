pub mod ExcessLemmas
pub mod StartLemmas
pub mod StateLemmas
pub mod AnswerLemmas
pub mod PriceLemmas
pub mod GoOnLemmas
pub mod LevelLemmas
pub mod GiveLemmas
