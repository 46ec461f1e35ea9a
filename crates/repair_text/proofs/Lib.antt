pub mod LoopLemmas
pub mod ReadingLemmas
pub mod UnknownLemmas
pub mod DigitLemmas
