-- What the code was told of a function so far.
use Rattle.std.specs.Prelude.{ℕ, []}
use Rattle.repair_model.specs.Repair.{Repair, flow, cut}
use Rattle.repair_text.specs.declared.open.OpenCounts.{OpenCounts}
use Rattle.repair_text.specs.declared.open.Sides.{Sides}
use Rattle.repair_text.specs.declared.open.Told.{Told}
use Rattle.repair_text.specs.declared.open.Told.TheVariants as told

-- The counts and prices that were told.
abbrev pub counts_told : OpenCounts → Repair
counts_told counts = record {
  weights = counts.weights.items;
  edge_weights = counts.edge_weights.items;
  solution = flow (record { blocks = counts.blocks.items; edges = counts.edges.items })
      counts.ins.items counts.outs.items;
  first = 0;
  second = 0;
}

-- The sides of a cut that were told.
abbrev pub sides_told : Sides → Repair
sides_told sides = record {
  weights = sides.weights.items;
  edge_weights = [];
  solution = cut sides.root sides.ins.items sides.outs.items;
  first = 0;
  second = 0;
}

abbrev pub told_of : Told → Repair
told_of (told.OpenCounts counts) = counts_told counts
told_of (told.Sides sides) = sides_told sides

-- The repair that ends with these numbers.
abbrev pub with_sums : Repair → ℕ → ℕ → Repair
with_sums repair first second = record repair { first = first; second = second }
