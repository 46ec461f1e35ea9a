-- What rows in order print is the report on what they tell of.
use Rattle.std.proofs.Common.{◌≡◌, ℕ, ◌+◌, Bool, true, false, cond, List, [], ◌∷◌, ◌++◌, map, refl, sym, ap, ◌∙◌, arith}
use Rattle.std.specs.Prelude.{codes, count_by, filter, length, sum_by}
use Rattle.std.specs.List.{flat_map}
use Rattle.std.proofs.lemmas.List.Sums.{sum_by-cons}
use Rattle.sample_model.specs.Pairs.{distinct_pairs, times_of}
use Rattle.sample_model.specs.declared.pair.Pair.{Pair}
use Rattle.branch_counts.specs.Table.{Tallies, total_in}
use Rattle.branch_counts.specs.Laws.{times_where as pairs_where, told_of}
use Rattle.branch_counts.proofs.OrderLemmas.{sorted_rows_are_distinct_pairs}
use Rattle.branch_counts.proofs.TallyLemmas.{tables_count_members}
use Rattle.report_model.specs.declared.class.Class.{Class}
use Rattle.report_model.specs.declared.class.RangeClass.{RangeClass}
use Rattle.report_model.specs.declared.class.RangeClass.TheVariants.{Ran, Reversed, RangeOutside, Crossing}
use Rattle.report_model.specs.declared.class.Reason.{Reason}
use Rattle.report_model.specs.Branches.{is_entry, is_inside, is_unmapped}
use Rattle.report_model.specs.Ranges.{is_class}
use Rattle.report_model.specs.Report.{Classes, Sampled, branches_text, branches_where, number_line, ranges_of_class, ranges_text, reasons, unmapped_line}
use Rattle.report_model.specs.Report.{lines_for as told_lines_for}
use Rattle.profile_report.specs.declared.classed.Classed.{Classed}
use Rattle.profile_report.specs.declared.report.BranchUnits.{BranchUnits}
use Rattle.profile_report.specs.Classed.{all_times, classed_by, line_for, lines_for, times_where}
use Rattle.profile_report.specs.Told.{Tells}

by_row : (t : Bool) (n a b s : ℕ) → a ≡ n + b → s ≡ b → cond t a b ≡ cond t n 0 + s
by_row true n a b s more is = omega (arith, more, is)
by_row false n a b s more is = omega (arith, is)

sum-if : {X : Type 0} (f : X → ℕ) (t : Bool) (x : X) (xs : List X) → sum_by f (cond t (x ∷ xs) xs) ≡ cond t (f x) 0 + sum_by f xs
sum-if f true x xs = sum_by-cons f x xs
sum-if f false x xs = omega arith

-- sums over classed rows, as sums over the rows
where-classed : {C : Type 0} (class : ℕ → ℕ → C) (is : C → Bool) (rows : List Pair) → times_where is (map (classed_by class) rows) ≡ pairs_where (λ p. is (class p.0 p.1)) rows
where-classed class is [] = refl
where-classed {C} class is (row ∷ rows) =
    let t = is (class row.from row.to) in
    sum-if (λ (r : Classed C). r.row.times) t (classed_by class row) (filter (λ r. is r.class) (map (classed_by class) rows))
    ∙ ap (λ (n : ℕ). cond t row.times 0 + n) (where-classed class is rows)
    ∙ sym (sum-if (λ (r : Pair). r.times) t row (filter (λ (r : Pair). is (class r.from r.to)) rows))

pub all-classed : {C : Type 0} (class : ℕ → ℕ → C) (rows : List Pair) → all_times (map (classed_by class) rows) ≡ total_in rows
all-classed class [] = refl
all-classed {C} class (row ∷ rows) =
    sum_by-cons (λ (r : Classed C). r.row.times) (classed_by class row) (map (classed_by class) rows)
    ∙ ap (λ (n : ℕ). row.times + n) (all-classed class rows)
    ∙ sym (sum_by-cons (λ (r : Pair). r.times) row rows)

-- what passes a test among values, as what does among that they are made of
flat-filter-map : {A B C : Type 0} (h : B → List C) (is : B → Bool) (v : A → B) (xs : List A) → flat_map h (filter is (map v xs)) ≡ flat_map (λ x. h (v x)) (filter (λ x. is (v x)) xs)
flat-filter-map h is v [] = refl
flat-filter-map {A} {B} {C} h is v (x ∷ xs) = by_test (is (v x)) (flat-filter-map h is v xs)
  where
    by_test : (t : Bool) → flat_map h (filter is (map v xs)) ≡ flat_map (λ y. h (v y)) (filter (λ y. is (v y)) xs)
        → flat_map h (cond t (v x ∷ filter is (map v xs)) (filter is (map v xs))) ≡ flat_map (λ y. h (v y)) (cond t (x ∷ filter (λ y. is (v y)) xs) (filter (λ y. is (v y)) xs))
    by_test true rest = ap (λ (cs : List C). h (v x) ++ cs) rest
    by_test false rest = rest

flat_map-same : {A B : Type 0} (f g : A → List B) (xs : List A) → ((x : A) → f x ≡ g x) → flat_map f xs ≡ flat_map g xs
flat_map-same f g [] same = refl
flat_map-same {A} {B} f g (x ∷ xs) same = ap (λ (ys : List B). ys ++ flat_map f xs) (same x) ∙ ap (λ (ys : List B). g x ++ ys) (flat_map-same f g xs same)

told_line : Reason → (ℕ × ℕ) × ℕ → List ℕ
told_line reason told = unmapped_line reason told.0 told.1

-- how often rows of a kind say that their pairs stand, as a count of these
times-told : {C : Type 0} (class : ℕ × ℕ → C) (pairs : List (ℕ × ℕ)) (rows : List Pair) (classed : List (Classed C)) (is : C → Bool)
    → classed ≡ map (classed_by (λ from to. class (from, to))) rows → Tallies pairs rows → times_where is classed ≡ count_by (λ p. is (class p)) pairs
times-told class pairs rows classed is classed_are tallied =
    ap (times_where is) classed_are ∙ where-classed (λ from to. class (from, to)) is rows ∙ tables_count_members pairs rows (λ p. is (class p)) tallied

module _ (classes : Classes) (sampled : Sampled) (branches : List (Classed Class)) (ranges : List (Classed RangeClass)) (units : BranchUnits) (tells : Tells classes sampled branches ranges units) where
  lines-told : (reason : Reason) → lines_for branches reason ≡ told_lines_for classes sampled reason
  unfolding told_line
  lines-told reason =
      let class = classes.of_branch in
      let is : (ℕ × ℕ) × ℕ → Bool = λ told. is_unmapped reason (class told.0) in
      let rows = tells.branch_rows in
      ap (λ (rs : List (Classed Class)). lines_for rs reason) tells.branches_are
      ∙ flat-filter-map (line_for reason) (λ (r : Classed Class). is_unmapped reason r.class) (classed_by (λ from to. class (from, to))) rows
      ∙ sym (flat-filter-map (told_line reason) is told_of rows)
      ∙ ap (λ (ts : List ((ℕ × ℕ) × ℕ)). flat_map (told_line reason) (filter is ts)) (sorted_rows_are_distinct_pairs sampled.branches rows tells.of_branches tells.in_order)
      ∙ flat-filter-map (told_line reason) is (λ p. (p, times_of p sampled.branches)) (distinct_pairs sampled.branches)

  pub branches_told : (all entries inside : ℕ) → all ≡ all_times branches → entries ≡ times_where is_entry branches → inside ≡ times_where is_inside branches
      → number_line (codes "branches") all ++ (number_line (codes "entries") entries ++ (number_line (codes "inside") inside ++ flat_map (lines_for branches) reasons)) ≡ branches_text classes sampled
  branches_told all entries inside all_is entries_is inside_is =
      let whole : all_times branches ≡ length sampled.branches =
      ap all_times tells.branches_are ∙ all-classed (λ from to. classes.of_branch (from, to)) tells.branch_rows ∙ tells.of_branches.total in
      let count : (is : Class → Bool) → times_where is branches ≡ branches_where classes sampled is =
      λ is. times-told classes.of_branch sampled.branches tells.branch_rows branches is tells.branches_are tells.of_branches in
      let lines = flat_map-same (lines_for branches) (told_lines_for classes sampled) reasons lines-told in
      rw (all_is ∙ whole, entries_is ∙ count is_entry, inside_is ∙ count is_inside, lines) refl

  pub ranges_told : (ran reversed outside crossing : ℕ) → ran ≡ times_where (is_class Ran) ranges → reversed ≡ times_where (is_class Reversed) ranges
      → outside ≡ times_where (is_class RangeOutside) ranges → crossing ≡ times_where (is_class Crossing) ranges
      → number_line (codes "ranges ran") ran ++ (number_line (codes "ranges reversed") reversed ++ (number_line (codes "ranges outside") outside ++ number_line (codes "ranges crossing") crossing)) ≡ ranges_text classes sampled
  ranges_told ran reversed outside crossing ran_is reversed_is outside_is crossing_is =
      let count : (c : RangeClass) → times_where (is_class c) ranges ≡ ranges_of_class classes sampled c =
      λ c. times-told classes.of_range sampled.ranges tells.range_rows ranges (is_class c) tells.ranges_are tells.of_ranges in
      rw (ran_is ∙ count Ran, reversed_is ∙ count Reversed, outside_is ∙ count RangeOutside, crossing_is ∙ count Crossing) refl
