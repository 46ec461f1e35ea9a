-- Hits of an address, range by range.
use Rattle.std.proofs.Common.{◌≡◌, ℕ, ◌+◌, ◌≤◌, Bool, true, false, cond, List, [], ◌∷◌, refl, sym, ap, ◌∙◌, arith}
use Rattle.std.specs.Prelude.{count_by, sum_by, filter}
use Rattle.std.proofs.lemmas.List.Elements.{All-tail}
use Rattle.std.proofs.lemmas.List.Sums.{sum_by-cons}
use Rattle.profile_model.specs.declared.ran_range.RanRange.{RanRange}
use Rattle.profile_model.specs.Hits.{hits_at, holds, times_of}
use Rattle.profile_model.specs.HitLaws.{LargestIsOne, HitsCountRanges, HitsAreWithinTimes}

pub largest_is_one : LargestIsOne
largest_is_one lo hi hits m n one other =
    let a = one.attained in
    let b = other.attained in
    omega (arith, a.3, b.3, one.bounded b.0 b.1 b.2, other.bounded a.0 a.1 a.2)

-- what a range adds to the hits of an address
abbrev pub share : ℕ → RanRange → ℕ
share address range = cond (holds address range) range.times 0

pub hits-cons : (r : RanRange) (ranges : List RanRange) (a : ℕ) → hits_at (r ∷ ranges) a ≡ share a r + hits_at ranges a
hits-cons r ranges a = by_test (holds a r)
  where
    by_test : (t : Bool) → times_of (cond t (r ∷ filter (holds a) ranges) (filter (holds a) ranges)) ≡ cond t r.times 0 + hits_at ranges a
    by_test true = sum_by-cons (λ range. range.times) r (filter (holds a) ranges)
    by_test false = omega arith

pub hits-shares : (ranges : List RanRange) (a : ℕ) → hits_at ranges a ≡ sum_by (share a) ranges
hits-shares [] a = refl
hits-shares (r ∷ ranges) a =
    hits-cons r ranges a ∙ ap (λ n. share a r + n) (hits-shares ranges a) ∙ sym (sum_by-cons (share a) r ranges)

pub hits_are_within_times : HitsAreWithinTimes
hits_are_within_times [] a = omega arith
hits_are_within_times (r ∷ ranges) a =
    let less : share a r ≤ r.times = by_test (holds a r) in
    omega (arith, less, hits-cons r ranges a, hits_are_within_times ranges a, sum_by-cons (λ range. range.times) r ranges)
  where
    by_test : (t : Bool) → cond t r.times 0 ≤ r.times
    by_test true = omega arith
    by_test false = omega arith

pub hits_count_ranges : HitsCountRanges
hits_count_ranges [] a once = refl
hits_count_ranges (r ∷ ranges) a once =
    hits-cons r ranges a
    ∙ ap (λ n. share a r + n) (hits_count_ranges ranges a (All-tail (λ range. range.times ≡ 1) r ranges once))
    ∙ ap (λ n. cond (holds a r) n 0 + count_by (holds a) ranges) (once 0 r (omega arith))
    ∙ sym (sum_by-cons (λ range. cond (holds a range) 1 0) r ranges)
