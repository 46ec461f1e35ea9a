pub mod Repaired
pub mod Solver
pub mod Told
