-- The weight of an edge: how often the program went over from one block to another.
use Rattle.std.specs.Prelude.{ℕ, ◌+◌, nat_eq, nat_le, nat_lt, Bool, ◌&&◌, List, filter, sum_by, slice_get, Option, None, Some, if◌then◌else◌}
use Rattle.block_model.specs.declared.parts.Block.{Block}
use Rattle.block_model.specs.declared.parts.Edge.{Edge}
use Rattle.block_model.specs.declared.parts.Weight.{Weight}
use Rattle.block_model.specs.declared.parts.Weight.TheVariants.{Unknown, Known}
use Rattle.sample_model.specs.declared.pair.Pair.{Pair}
use Rattle.profile_model.specs.declared.ran_range.RanRange.{RanRange}
use Rattle.profile_model.specs.Hits.{times_of}

-- Whether a branch leads from a block to an address.
abbrev pub leads : Block → ℕ → Pair → Bool
leads block to branch = nat_le block.lo branch.from && nat_lt branch.from block.hi && nat_eq branch.to to

-- How often branches were sampled that do.
abbrev pub taken : List Pair → Block → ℕ → ℕ
taken branches block to = sum_by (λ branch. branch.times) (filter (leads block to) branches)

-- Whether a range runs past an address from the one before it: it begins before the address and holds it.
abbrev pub runs_past : ℕ → RanRange → Bool
runs_past address range = nat_lt range.lo address && nat_le address range.hi

-- How often ranges ran that do.
abbrev pub passed : List RanRange → ℕ → ℕ
passed ran address = times_of (filter (runs_past address) ran)

-- How often the program went over from a block to another: by branches, and where the one ends where the other begins
-- by running on.
abbrev pub went_over : (Block → ℕ → ℕ) → (ℕ → ℕ) → Block → Block → ℕ
went_over taken passed from to = taken from to.lo + (if nat_eq from.hi to.lo then passed to.lo else 0)

-- A block of a known weight.
abbrev pub known_by : Option Weight → Option Block → Option Block
known_by None block = None
known_by (Some Unknown) block = None
known_by (Some (Known weight)) block = block

-- The block of a number, if it has a known weight.
abbrev pub known_block : List Block → List Weight → ℕ → Option Block
known_block blocks weights number = known_by (slice_get weights number) (slice_get blocks number)

-- The weight of an edge between two blocks is known where both of theirs are.
abbrev pub weight_between : (Block → ℕ → ℕ) → (ℕ → ℕ) → Option Block → Option Block → Weight
weight_between taken passed None to = Unknown
weight_between taken passed (Some from) None = Unknown
weight_between taken passed (Some from) (Some to) = Known (went_over taken passed from to)

-- The weight of an edge of a function, by how often branches were taken and addresses passed, and by the blocks with
-- their weights.
abbrev pub weight_by : (Block → ℕ → ℕ) → (ℕ → ℕ) → List Block → List Weight → Edge → Weight
weight_by taken passed blocks weights edge =
    weight_between taken passed (known_block blocks weights edge.from) (known_block blocks weights edge.to)
