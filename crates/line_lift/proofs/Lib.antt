pub mod AmongLemmas
pub mod CountLemmas
mod Examples
pub mod FallLemmas
pub mod HeldLemmas
pub mod KeyLemmas
pub mod LargestLemmas
pub mod LawLemmas
pub mod LiftLemmas
pub mod OwnerLemmas
pub mod PartLemmas
pub mod SpansLemmas
