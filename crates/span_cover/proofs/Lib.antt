pub mod AskedLemmas
pub mod BetweenLemmas
pub mod CoverLemmas
pub mod FrameLemmas
pub mod JoinLemmas
pub mod StretchLemmas
