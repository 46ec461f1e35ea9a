-- Changes tell the hits, in whatever order they stand.
use Rattle.std.proofs.Common.{◌≡◌, ℕ, ◌+◌, ◌^◌, ◌<◌, ◌≤◌, Bool, true, false, cond, List, [], ◌∷◌, ◌++◌, refl, sym, ap, ◌∙◌, arith, All, inl, inr, length, take, get_or, nat_le, nat_lt, lt-ltb}
use Rattle.std.specs.Prelude.{filter, flat_map, sum_by, IsPermutation}
use Rattle.std.proofs.lemmas.Bool.{cases_lt, le-ltb}
use Rattle.std.proofs.lemmas.Bool.Decides.{nat_tests}
use Rattle.std.proofs.lemmas.List.{flat_map_more, take_more}
use Rattle.std.proofs.lemmas.List.Elements.{All-head, All-tail}
use Rattle.std.proofs.lemmas.List.Sorted.{sum_by-IsPermutation}
use Rattle.std.proofs.lemmas.List.Sums.{sum_by-append, sum_by-cons}
use Rattle.list_lemmas.proofs.Sums.{sum_passing-append, sum_passing}
use Rattle.profile_model.specs.declared.ran_range.RanRange.{RanRange}
use Rattle.profile_model.specs.Hits.{AreRanges, hits_at, times_of}
use Rattle.profile_model.proofs.HitLemmas.{hits-cons, share}
use Rattle.range_counts.specs.declared.changes.Change.{Change}
use Rattle.range_counts.specs.Changes.{AreSound, begun_by, changes_at, ended_by, running_at}

-- Of what began at an address or before it all has ended before it but the hits.
pub record Tell (hits : ℕ → ℕ) (changes : List Change) : Type 0 where
  pub told : (a : ℕ) → a < 2 ^ 64 → begun_by changes a ≡ ended_by changes a + hits a
  pub begun_fits : sum_by (λ change. change.begun) changes < 2 ^ 64
  pub ended_fits : sum_by (λ change. change.ended) changes < 2 ^ 64

-- one range: what began at an address or before it has ended before it, or holds it
start : RanRange → Change
start r = record { at = r.lo; begun = r.times; ended = 0 }

end : RanRange → Change
end r = record { at = r.hi + 1; begun = 0; ended = r.times }

both : (r : RanRange) (t u : Bool) (held : ℕ) → cond t r.times 0 ≡ cond u r.times 0 + held
    → sum_by (λ change. change.begun) (cond t (start r ∷ cond u (end r ∷ []) []) (cond u (end r ∷ []) []))
    ≡ sum_by (λ change. change.ended) (cond t (start r ∷ cond u (end r ∷ []) []) (cond u (end r ∷ []) [])) + held
unfolding start end
both r true true held is = omega (arith, is)
both r true false held is = omega (arith, is)
both r false true held is = omega (arith, is)
both r false false held is = omega (arith, is)

alone : (r : RanRange) (t : Bool) (held : ℕ) → cond t r.times 0 ≡ held → sum_by (λ change. change.begun) (cond t (start r ∷ []) []) ≡ sum_by (λ change. change.ended) (cond t (start r ∷ []) []) + held
unfolding start
alone r true held is = omega (arith, is)
alone r false held is = omega (arith, is)

told_one : (r : RanRange) (a : ℕ) → r.lo ≤ r.hi → a < 2 ^ 64 → begun_by (changes_at r) a ≡ ended_by (changes_at r) a + share a r
unfolding start end
told_one r a order fits = elim (cases_lt (r.hi + 1) (2 ^ 64)) [
  | inl more ↦ rw (lt-ltb (r.hi + 1) (2 ^ 64) more) (both r (nat_le r.lo a) (nat_le (r.hi + 1) a) (share a r) (grind (arith, nat_tests)))
  | inr last ↦ rw (le-ltb (r.hi + 1) (2 ^ 64) last) (alone r (nat_le r.lo a) (share a r) (grind (arith, nat_tests)))
]

told_all : (ranges : List RanRange) (a : ℕ) → AreRanges ranges → a < 2 ^ 64 → begun_by (flat_map changes_at ranges) a ≡ ended_by (flat_map changes_at ranges) a + hits_at ranges a
told_all [] a order fits = refl
told_all (r ∷ ranges) a order fits =
    let before : Change → Bool = λ change. nat_le change.at a in
    let one = told_one r a (All-head (λ range. range.lo ≤ range.hi) r ranges order) fits in
    let others = told_all ranges a (All-tail (λ range. range.lo ≤ range.hi) r ranges order) fits in
    let begun = sum_passing-append (λ change. change.begun) before (changes_at r) (flat_map changes_at ranges) in
    let ended = sum_passing-append (λ change. change.ended) before (changes_at r) (flat_map changes_at ranges) in
    begun ∙ omega (arith, one, others, ended, hits-cons r ranges a)

sums_by_test : (r : RanRange) (t : Bool) → (sum_by (λ change. change.begun) (start r ∷ cond t (end r ∷ []) []) ≡ r.times) × (sum_by (λ change. change.ended) (start r ∷ cond t (end r ∷ []) []) ≤ r.times)
unfolding start end
sums_by_test r true = (omega arith, omega arith)
sums_by_test r false = (omega arith, omega arith)

sums_one : (r : RanRange) → (sum_by (λ change. change.begun) (changes_at r) ≡ r.times) × (sum_by (λ change. change.ended) (changes_at r) ≤ r.times)
unfolding start end
sums_one r = sums_by_test r (nat_lt (r.hi + 1) (2 ^ 64))

sums_all : (ranges : List RanRange) → (sum_by (λ change. change.begun) (flat_map changes_at ranges) ≡ times_of ranges) × (sum_by (λ change. change.ended) (flat_map changes_at ranges) ≤ times_of ranges)
sums_all [] = (refl, omega arith)
sums_all (r ∷ ranges) =
    let one = sums_one r in
    let others = sums_all ranges in
    let times = sum_by-cons (λ range. range.times) r ranges in
    let begun = sum_by-append (λ change. change.begun) (changes_at r) (flat_map changes_at ranges) in
    let ended = sum_by-append (λ change. change.ended) (changes_at r) (flat_map changes_at ranges) in
    (begun ∙ omega (arith, one.0, others.0, times), omega (arith, ended, one.1, others.1, times))

pub changes_tell : (ranges : List RanRange) (changes : List Change) → AreRanges ranges → times_of ranges < 2 ^ 64 → changes ≡ flat_map changes_at ranges → Tell (hits_at ranges) changes
changes_tell ranges changes order fits is = rw is (record {
  told = λ a inside. told_all ranges a order inside;
  begun_fits = omega (arith, fits, (sums_all ranges).0);
  ended_fits = omega (arith, fits, (sums_all ranges).1);
})

-- in another order they tell the same
same_sum : (f : Change → ℕ) (p : Change → Bool) (xs ys : List Change) → IsPermutation xs ys → sum_by f (filter p ys) ≡ sum_by f (filter p xs)
same_sum f p xs ys same =
    sum_passing f p ys ∙ sum_by-IsPermutation (λ x. cond (p x) (f x) 0) xs ys same ∙ sym (sum_passing f p xs)

pub Tell-permutation : (hits : ℕ → ℕ) (xs ys : List Change) → IsPermutation xs ys → Tell hits xs → Tell hits ys
Tell-permutation hits xs ys same tell = record {
  told = λ a inside.
      same_sum (λ change. change.begun) (λ change. nat_le change.at a) xs ys same
      ∙ tell.told a inside
      ∙ ap (λ n. n + hits a) (sym (same_sum (λ change. change.ended) (λ change. nat_le change.at a) xs ys same));
  begun_fits = omega (arith, tell.begun_fits, sum_by-IsPermutation (λ (change : Change). change.begun) xs ys same);
  ended_fits = omega (arith, tell.ended_fits, sum_by-IsPermutation (λ (change : Change). change.ended) xs ys same);
}

-- they are sound, and what is running at an address are its hits
pub sound : (hits : ℕ → ℕ) (changes : List Change) → Tell hits changes → AreSound changes
sound hits changes tell = record {
  ended_begun = λ a inside. omega (arith, tell.told a inside);
  begun_fits = tell.begun_fits;
  ended_fits = tell.ended_fits;
}

pub running-hits : (hits : ℕ → ℕ) (changes : List Change) (a : ℕ) → Tell hits changes → a < 2 ^ 64 → running_at changes a ≡ hits a
running-hits hits changes a tell inside = omega (arith, tell.told a inside)

-- no range holds what is behind all addresses
pub no_hits : (ranges : List RanRange) (a : ℕ) → All (λ range. range.hi < 2 ^ 64) ranges → 2 ^ 64 ≤ a → hits_at ranges a ≡ 0
no_hits [] a fit behind = refl
no_hits (r ∷ ranges) a fit behind =
    let first : r.hi < 2 ^ 64 = All-head (λ range. range.hi < 2 ^ 64) r ranges fit in
    let not : share a r ≡ 0 = grind (arith, nat_tests) in
    omega (arith, not, hits-cons r ranges a, no_hits ranges a (All-tail (λ range. range.hi < 2 ^ 64) r ranges fit) behind)

-- one more range
pub changes_more : (ranges : List RanRange) (i : ℕ) (d : RanRange) (old new : List Change) → i < length ranges → old ≡ flat_map changes_at (take i ranges) → new ≡ old ++ changes_at (get_or ranges i d) → new ≡ flat_map changes_at (take (i + 1) ranges)
changes_more ranges i d old new within is pushed =
    pushed
    ∙ ap (λ cs. cs ++ changes_at (get_or ranges i d)) is
    ∙ flat_map_more changes_at [] (take i ranges) (get_or ranges i d)
    ∙ ap (flat_map changes_at) (sym (take_more ranges i d within))
