-- How often addresses ran.
use Rattle.std.specs.Prelude.{◌≡◌, ℕ, ◌<◌, ◌≤◌, Bool, ◌&&◌, nat_le, List, All, filter, sum_by}
use Rattle.profile_model.specs.declared.ran_range.RanRange.{RanRange}

-- A range holds its first address, its last, and all between them.
abbrev pub holds : ℕ → RanRange → Bool
holds address range = nat_le range.lo address && nat_le address range.hi

-- No range ends before it begins.
abbrev pub AreRanges : List RanRange → Type 0
AreRanges ranges = All (λ range. range.lo ≤ range.hi) ranges

-- How often some ranges were sampled, all together.
abbrev pub times_of : List RanRange → ℕ
times_of ranges = sum_by (λ range. range.times) ranges

-- The hits of an address: how often the ranges that hold it were sampled.
abbrev pub hits_at : List RanRange → ℕ → ℕ
hits_at ranges address = times_of (filter (holds address) ranges)

-- The largest hits of the addresses from `lo` on that are below `hi`: some address has so many, and none has more.
pub record IsLargestIn (lo hi : ℕ) (hits : ℕ → ℕ) (largest : ℕ) : Type 0 where
  pub attained : (address : ℕ) × (lo ≤ address) × (address < hi) × (hits address ≡ largest)
  pub bounded : (address : ℕ) → lo ≤ address → address < hi → hits address ≤ largest
