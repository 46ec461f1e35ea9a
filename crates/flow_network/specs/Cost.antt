-- Costs that fit their type when they are added up.
use Rattle.std.specs.Prelude.{◌≤◌}
use Rattle.flow_model.specs.declared.arc.Arc.{Arc}

-- A unit costs little on an arc.
pub record IsCheap (arc : Arc) : Type 0 where
  pub cheap_up : arc.up ≤ 40
  pub cheap_down : arc.down ≤ 40
