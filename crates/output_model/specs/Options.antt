-- What is asked for besides the files.
use Rattle.std.specs.Prelude.{ℕ, Bool, List, Option}
use Rattle.output_model.specs.declared.options.RepairOptions.{RepairOptions}

-- What the options of a command say. A command without one of them is carried out as where it is not given.
pub record Options : Type 0 where
  -- `--map=NAME`: the name of the binary in load lines, by which addresses are moved.
  pub map : Option (List ℕ)
  -- `--base`: bases stand in place of discriminators.
  pub base : Bool
  -- `--edges` and `--scaled`: what is asked of repairs.
  pub repairs : RepairOptions
