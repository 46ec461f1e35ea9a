-- What is counted of a branch text.
use Rattle.std.specs.Prelude.{◌≡◌, ℕ, ◌≤◌, Bool, List, [], Option, None, if◌then◌else◌}
use Rattle.sample_model.specs.Limits.{max_branches}
use Rattle.sample_model.specs.Moves.{LoadMap, branches_by, ranges_by}
use Rattle.sample_model.specs.Samples.{ranges_between}
use Rattle.sample_model.specs.declared.pair.Pair.{Pair}
use Rattle.branch_counts.specs.Table.{AddsPairs, IsTable, Tallies, total_in}

-- The distinct branches and the distinct sampled ranges, each with how often it stands, and whether ranges are
-- counted.
pub record Tally : Type 0 where
  pub branches : List Pair
  pub ranges : List Pair
  pub with_ranges : Bool

-- How many branches were counted, all in all.
abbrev pub total_of : Tally → ℕ
total_of tally = total_in tally.branches

-- That of which ranges are counted: all, or nothing where ranges are left out.
abbrev pub counted : {A : Type 0} → Bool → List A → List A
counted with_ranges all = if with_ranges then all else []

-- The branches of one sample were counted, newest first, and the ranges between them, unless ranges are left out.
pub record AddsStack (old new : Tally) (stack : List (ℕ × ℕ)) : Type 0 where
  pub branches : AddsPairs old.branches new.branches stack
  pub ranges : AddsPairs old.ranges new.ranges (ranges_between (counted old.with_ranges stack))
  pub with_ranges : new.with_ranges ≡ old.with_ranges

-- These branches of one sample were counted, and these ranges, unless ranges are left out.
pub record AddsSample (old new : Tally) (stack ran : List (ℕ × ℕ)) : Type 0 where
  pub branches : AddsPairs old.branches new.branches stack
  pub ranges : AddsPairs old.ranges new.ranges (counted old.with_ranges ran)
  pub with_ranges : new.with_ranges ≡ old.with_ranges

-- These lines were counted, and nothing else: their branches, and their ranges, unless ranges are left out. Addresses
-- are as they stand, or moved by the loads among the lines.
pub record Tells (loading : Option LoadMap) (lines : List (List ℕ)) (tally : Tally) : Type 0 where
  pub branches : Tallies (branches_by loading lines) tally.branches
  pub ranges : Tallies (ranges_by loading (counted tally.with_ranges lines)) tally.ranges

-- What is kept: both are tables, the total is that of the branches and within the limit, and there are no more ranges
-- than branches.
pub record IsCounted (tally : Tally) (count : ℕ) : Type 0 where
  pub branches : IsTable tally.branches
  pub ranges : IsTable tally.ranges
  pub total : count ≡ total_of tally
  pub within : count ≤ max_branches
  pub fewer_ranges : total_in tally.ranges ≤ count
