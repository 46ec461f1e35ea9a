-- Ranges that ran go forward, and their times fit.
use Rattle.std.proofs.Common.{◌≡◌, ◌≤◌, ◌<◌, ℕ, ◌^◌, nat_lt, false, List, map, sum_by, Option, None, Some, Result, Ok, Err, refl, sym, ap, subst, ◌∙◌, arith}
use Rattle.std.specs.Prelude.{OnOk, if◌then◌else◌}
use Rattle.std.specs.List.{filter_map}
use Rattle.std.specs.Option.{option_map_or}
use Rattle.profile_model.specs.Hits.{AreRanges, hits_at, times_of}
use Rattle.profile_model.specs.Steps.{hits_by, hits_on}
use Rattle.profile_model.specs.declared.step.Step.{Step}
use Rattle.profile_model.specs.declared.ran_range.RanRange.{RanRange}
use Rattle.profile_model.proofs.HitLemmas.{hits_are_within_times}
use Rattle.sample_model.specs.Limits.{max_branches}
use Rattle.sample_model.specs.declared.pair.Pair.{Pair}
use Rattle.report_model.specs.declared.class.RangeClass.{RangeClass}
use Rattle.report_model.specs.declared.class.RangeClass.TheVariants.{Ran, Reversed, RangeOutside, Crossing}
use Rattle.report_model.specs.Ranges.{range_class}
use Rattle.report_model.proofs.RangeLemmas.{ran_is_one_function}
use Rattle.profile_report.specs.Classed.{all_times, classed_by}
use Rattle.profile_report.specs.declared.classed.Classed.{Classed}
use Rattle.profile_tree.proofs.ListLemmas.{all_among, among_map_back, sum_at_most}
use Rattle.profile_writer.proofs.SumLemmas.{kept_all, kept_sum}
use Rattle.profile_writer.specs.Items.{ran_by, ran_in}

none_some : (x : RanRange) → None ≡ Some x → ⊥
none_some x e = cc

inner : (x y : RanRange) → Some x ≡ Some y → x ≡ y
inner x y e = cc

forward_by : (class : RangeClass) (lo hi times : ℕ) → (class ≡ Ran → lo ≤ hi) → (range : RanRange) → ran_by class lo hi times ≡ Some range → range.lo ≤ range.hi
forward_by Ran lo hi times is range e = subst (λ (r : RanRange). r.lo ≤ r.hi) (inner (record { lo = lo; hi = hi; times = times }) range e) (is refl)
forward_by Reversed lo hi times is range e = absurd (none_some range e)
forward_by RangeOutside lo hi times is range e = absurd (none_some range e)
forward_by Crossing lo hi times is range e = absurd (none_some range e)

pub ran_forward : (function : ℕ → Option ℕ) (rows : List Pair) → AreRanges (filter_map ran_in (map (classed_by (range_class function)) rows))
ran_forward function rows = kept_all (λ range. range.lo ≤ range.hi) ran_in (map (classed_by (range_class function)) rows) (λ r there range e.
    let row = among_map_back (classed_by (range_class function)) r rows there in
    forward_by (range_class function row.0.from row.0.to) row.0.from row.0.to row.0.times (λ ran. ((ran_is_one_function function row.0.from row.0.to).0 ran).0) range (sym (ap ran_in row.2) ∙ e))

ran_small : (class : RangeClass) (lo hi times : ℕ) → option_map_or (λ range. range.times) (ran_by class lo hi times) 0 ≤ times
ran_small Ran lo hi times = omega arith
ran_small Reversed lo hi times = omega arith
ran_small RangeOutside lo hi times = omega arith
ran_small Crossing lo hi times = omega arith

pub ran_fits : (ranges : List (Classed RangeClass)) → times_of (filter_map ran_in ranges) ≤ all_times ranges
ran_fits ranges =
    let weight : RanRange → ℕ = λ range. range.times in
    let least : sum_by (λ r. option_map_or weight (ran_in r) 0) ranges ≤ all_times ranges =
    sum_at_most (λ r. option_map_or weight (ran_in r) 0) (λ r. r.row.times) ranges
    (all_among (λ r. option_map_or weight (ran_in r) 0 ≤ r.row.times) ranges (λ r _. ran_small r.class r.row.from r.row.to r.row.times)) in
    omega (arith, least, kept_sum ran_in weight ranges)

pub hits_fit : (ranges : List (Classed RangeClass)) (address : ℕ) → all_times ranges ≤ max_branches → hits_at (filter_map ran_in ranges) address < 2 ^ 32
hits_fit ranges address few = omega (arith, few, ran_fits ranges, hits_are_within_times (filter_map ran_in ranges) address)

-- what a sweep of them needs and gives
pub times_small : (ran : List RanRange) (ranges : List (Classed RangeClass)) → ran ≡ filter_map ran_in ranges → all_times ranges ≤ max_branches → times_of ran < 2 ^ 64
times_small ran ranges is few = subst (λ (rs : List RanRange). times_of rs < 2 ^ 64) (sym is) (omega (arith, few, ran_fits ranges))

pub ran_few : (ran : List RanRange) (ranges : List (Classed RangeClass)) → ran ≡ filter_map ran_in ranges → all_times ranges ≤ max_branches → times_of ran ≤ max_branches
ran_few ran ranges is few = subst (λ (rs : List RanRange). times_of rs ≤ max_branches) (sym is) (omega (arith, few, ran_fits ranges))

pub hits_small : (hits : ℕ → ℕ) (ran : List RanRange) (ranges : List (Classed RangeClass)) → hits ≡ hits_at ran → ran ≡ filter_map ran_in ranges → all_times ranges ≤ max_branches → (address : ℕ) → hits address < 2 ^ 32
hits_small hits ran ranges are is few address = subst (λ (f : ℕ → ℕ). f address < 2 ^ 32) (sym (are ∙ ap hits_at is)) (hits_fit ranges address few)

pub none_beyond : (steps : List Step) (ran : List RanRange) (ranges : List (Classed RangeClass)) → hits_by steps ≡ hits_at ran → ran ≡ filter_map ran_in ranges
    → (address : ℕ) → nat_lt address (2 ^ 64) ≡ false → hits_at (filter_map ran_in ranges) address ≡ 0
none_beyond steps ran ranges are is address far =
    sym (ap (λ (f : ℕ → ℕ). f address) (are ∙ ap hits_at is)) ∙ ap (λ b. if b then hits_on steps address else 0) far

pub on_ok : {A E : Type 0} (r : Result A E) (P : Type 0) → P → OnOk r P
on_ok (Ok a) P p = p
on_ok (Err e) P p = tt

pub ran_in_forward : (function : ℕ → Option ℕ) (rows : List Pair) (ranges : List (Classed RangeClass)) → ranges ≡ map (classed_by (range_class function)) rows → AreRanges (filter_map ran_in ranges)
ran_in_forward function rows ranges are = subst (λ (rs : List (Classed RangeClass)). AreRanges (filter_map ran_in rs)) (sym are) (ran_forward function rows)
