-- Ranges without their first addresses, and what they run past.
use Rattle.std.proofs.Common.{◌≡◌, ℕ, ◌+◌, ◌^◌, ◌<◌, ◌≤◌, cond, List, [], ◌∷◌, refl, sym, ap, ◌∙◌, arith, inl, inr, lt-ltb}
use Rattle.std.specs.Prelude.{flat_map}
use Rattle.std.proofs.Math.Path.{fun_ext}
use Rattle.std.proofs.lemmas.Bool.{cases_lt, le-ltb}
use Rattle.std.proofs.lemmas.Bool.Decides.{nat_tests}
use Rattle.std.proofs.lemmas.List.Elements.{All-append, All-push}
use Rattle.std.proofs.lemmas.List.Sums.{sum_by-append, sum_by-cons}
use Rattle.profile_model.specs.declared.ran_range.RanRange.{RanRange}
use Rattle.profile_model.specs.declared.step.Step.{Step}
use Rattle.profile_model.specs.Hits.{AreRanges, hits_at, holds, times_of}
use Rattle.profile_model.specs.Steps.{hits_by}
use Rattle.profile_model.proofs.HitLemmas.{hits-cons, hits_are_within_times, share}
use Rattle.weight_model.specs.Edges.{passed, runs_past}
use Rattle.block_weights.specs.Passing.{behind_first}
use Rattle.block_weights.proofs.SumLemmas.{sum_passing-append, sum_passing-cons}

-- one range
ranges_one : (r : RanRange) → AreRanges (behind_first r)
ranges_one r = elim (cases_lt r.lo r.hi) [
  | inl less ↦
      let behind : RanRange = record { lo = r.lo + 1; hi = r.hi; times = r.times } in
      rw (lt-ltb r.lo r.hi less) (All-push (λ range. range.lo ≤ range.hi) [] behind (λ k d within. absurd (omega (arith, within))) (omega (arith, less)))
  | inr not ↦ rw (le-ltb r.lo r.hi not) (λ k d within. absurd (omega (arith, within)))
]

passed_one : (r : RanRange) (a : ℕ) → hits_at (behind_first r) a ≡ cond (runs_past a r) r.times 0
passed_one r a = elim (cases_lt r.lo r.hi) [
  | inl less ↦
      let behind : RanRange = record { lo = r.lo + 1; hi = r.hi; times = r.times } in
      let same : share a behind ≡ cond (runs_past a r) r.times 0 = grind (arith, nat_tests) in
      rw (lt-ltb r.lo r.hi less) (hits-cons behind [] a ∙ omega (arith, same))
  | inr not ↦
      let none : cond (runs_past a r) r.times 0 ≡ 0 = grind (arith, nat_tests) in
      rw (le-ltb r.lo r.hi not) (sym none)
]

times_one : (r : RanRange) → times_of (behind_first r) ≤ r.times
times_one r = elim (cases_lt r.lo r.hi) [
  | inl less ↦ rw (lt-ltb r.lo r.hi less) (omega arith)
  | inr not ↦ rw (le-ltb r.lo r.hi not) (omega arith)
]

pub ranges_behind : (ran : List RanRange) → AreRanges (flat_map behind_first ran)
ranges_behind [] = λ k d within. absurd (omega (arith, within))
ranges_behind (r ∷ ran) = All-append (λ range. range.lo ≤ range.hi) (behind_first r) (flat_map behind_first ran) (ranges_one r) (ranges_behind ran)

pub passed_all : (ran : List RanRange) (a : ℕ) → hits_at (flat_map behind_first ran) a ≡ passed ran a
passed_all [] a = refl
passed_all (r ∷ ran) a =
    sum_passing-append (λ range. range.times) (holds a) (behind_first r) (flat_map behind_first ran)
    ∙ omega (arith, passed_one r a, passed_all ran a, sum_passing-cons (λ range. range.times) (runs_past a) r ran)

pub times_behind : (ran : List RanRange) → times_of (flat_map behind_first ran) ≤ times_of ran
times_behind [] = omega arith
times_behind (r ∷ ran) =
    omega (arith, times_one r, times_behind ran, sum_by-append (λ range. range.times) (behind_first r) (flat_map behind_first ran), sum_by-cons (λ range. range.times) r ran)

-- steps that tell the hits of what lies behind the first addresses tell what ran past an address
pub passed_steps : (ran made : List RanRange) (steps : List Step) → made ≡ flat_map behind_first ran → hits_by steps ≡ hits_at made → hits_by steps ≡ passed ran
passed_steps ran made steps is told = told ∙ ap hits_at is ∙ fun_ext (λ a. passed_all ran a)

pub passed_fits : (ran made : List RanRange) (steps : List Step) (a : ℕ) → made ≡ flat_map behind_first ran → hits_by steps ≡ hits_at made → times_of ran < 2 ^ 32 → hits_by steps a < 2 ^ 32
passed_fits ran made steps a is told fits =
    omega (arith, fits, times_behind ran, ap times_of is, ap (λ hits. hits a) told, hits_are_within_times made a)
