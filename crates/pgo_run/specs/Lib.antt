pub mod Merge
pub mod Status
pub use Rattle.program_edge.specs.Halt
pub use Rattle.program_edge.specs.Opens
pub use Rattle.program_edge.specs.Output
pub use Rattle.program_edge.specs.Run
