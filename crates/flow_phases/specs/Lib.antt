pub mod Phase
pub mod Refining
pub use Rattle.flow_balance.specs.Solved
