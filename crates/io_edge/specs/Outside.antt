-- What the files and the output of the system show: counts alone, since no contract can tell their bytes.
use Rattle.std.specs.Prelude.{ℕ, Bool}

-- How many files were opened, and how many calls failed.
pub record InputsOutside : Type 0 where
  pub opens : ℕ
  pub faults : ℕ

-- How many calls failed, and whether the output is finished.
pub record SinkOutside : Type 0 where
  pub faults : ℕ
  pub finished : Bool
