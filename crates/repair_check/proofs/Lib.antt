pub mod FailLemmas
