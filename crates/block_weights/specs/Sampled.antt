-- Sampled branches and ranges in order.
use Rattle.std.specs.Prelude.{◌≡◌, ℕ, ◌+◌, ◌*◌, ◌<◌, ◌≤◌, ◌^◌, List, length, slice_index_or, sum_by, take}
use Rattle.std.specs.List.{All}
use Rattle.std.specs.List.Sorted.{IsNonDecreasingBy}
use Rattle.sample_model.specs.declared.pair.Pair.{Pair}
use Rattle.profile_model.specs.declared.ran_range.RanRange.{RanRange}
use Rattle.profile_model.specs.declared.step.Step.{Step}
use Rattle.profile_model.specs.Steps.{hits_by}
use Rattle.weight_model.specs.Edges.{passed, taken}

-- Branches, and the steps that tell how often ranges ran past each address.
pub record Sampled : Type 0 where
  pub branches : List Pair
  pub passing : List Step

-- How often branches were taken, all together.
abbrev pub branches_taken : List Pair → ℕ
branches_taken branches = sum_by (λ branch. branch.times) branches

-- The rank of a branch to an address from another: by its target, and for one target by its source.
abbrev pub rank : ℕ → ℕ → ℕ
rank to from = to * 2 ^ 64 + from

-- How often the branches in front of each place were taken; the sources are addresses.
pub record AreSums (branches : List Pair) (sums : List ℕ) : Type 0 where
  pub one_more : length sums ≡ length branches + 1
  pub told : (n : ℕ) → n ≤ length branches → slice_index_or sums n 0 ≡ branches_taken (take n branches)
  pub sources : All (λ branch. branch.from < 2 ^ 64) branches

-- The branches stand by their ranks. Both they and what ran past an address count fewer than 2^32 times.
pub record IsInOrder (sampled : Sampled) : Type 0 where
  pub rise : IsNonDecreasingBy (λ branch. rank branch.to branch.from) sampled.branches
  pub taken_fits : branches_taken sampled.branches < 2 ^ 32
  pub passed_fits : (address : ℕ) → hits_by sampled.passing address < 2 ^ 32

-- They tell what these branches and ranges do.
pub record Tell (branches : List Pair) (ran : List RanRange) (sampled : Sampled) : Type 0 where
  pub taken_same : taken sampled.branches ≡ taken branches
  pub passed_same : hits_by sampled.passing ≡ passed ran
