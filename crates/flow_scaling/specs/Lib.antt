pub use Rattle.flow_phases.specs.Solved
