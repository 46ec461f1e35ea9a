-- What follows from the definitions.
use Rattle.std.specs.Prelude.{◌≡◌, ℕ, ◌≤◌, List, All, count_by}
use Rattle.profile_model.specs.declared.ran_range.RanRange.{RanRange}
use Rattle.profile_model.specs.Hits.{IsLargestIn, hits_at, holds, times_of}

-- Two largest hits over the same addresses are one number.
abbrev pub LargestIsOne : Type 0
LargestIsOne =
    (lo hi : ℕ) (hits : ℕ → ℕ) (m n : ℕ) → IsLargestIn lo hi hits m → IsLargestIn lo hi hits n → m ≡ n

-- Where each sample has a range of its own, hits are the number of ranges that hold the address.
abbrev pub HitsCountRanges : Type 0
HitsCountRanges =
    (ranges : List RanRange) (address : ℕ)
    → All (λ range. range.times ≡ 1) ranges → hits_at ranges address ≡ count_by (holds address) ranges

-- No address has more hits than there are times.
abbrev pub HitsAreWithinTimes : Type 0
HitsAreWithinTimes = (ranges : List RanRange) (address : ℕ) → hits_at ranges address ≤ times_of ranges
