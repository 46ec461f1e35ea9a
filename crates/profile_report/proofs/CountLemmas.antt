-- Sums over the first rows, row by row.
use Rattle.std.proofs.Common.{◌≡◌, ℕ, ◌+◌, ◌<◌, ◌≤◌, Bool, true, false, cond, List, [], ◌∷◌, ◌++◌, add-one, take, get_or, length, refl, sym, ap, ◌∙◌, arith}
use Rattle.std.specs.Prelude.{filter, sum_by}
use Rattle.std.proofs.Math.Seq.{take-suc}
use Rattle.std.proofs.Common.{append-nil, append_assoc}
use Rattle.std.specs.List.{flat_map}
use Rattle.std.proofs.lemmas.Grind.{flat_map-append}
use Rattle.std.proofs.lemmas.List.Elements.{filter-append}
use Rattle.std.proofs.lemmas.List.Sums.{sum_by-append, sum_by-cons, sum_by-take-le, sum_by_push}
use Rattle.profile_report.specs.declared.classed.Classed.{Classed}
use Rattle.report_model.specs.declared.class.Class.{Class}
use Rattle.report_model.specs.declared.class.Class.TheVariants.{Entry}
use Rattle.report_model.specs.declared.class.RangeClass.{RangeClass}
use Rattle.report_model.specs.declared.class.RangeClass.TheVariants.{Ran}
use Rattle.report_model.specs.declared.class.Reason.{Reason}
use Rattle.report_model.specs.Branches.{is_unmapped}
use Rattle.profile_report.specs.Classed.{all_times, line_for, lines_for, times_where}

-- what stands behind the rows, as a loop over them asks
abbrev pub no_branch : Classed Class
no_branch = record { row = record { from = 0; to = 0; times = 0 }; class = Entry (record { 0 = 0 }) }

abbrev pub no_range : Classed RangeClass
no_range = record { row = record { from = 0; to = 0; times = 0 }; class = Ran }

one-more : {X : Type 0} (xs : List X) (i : ℕ) (d : X) → i < length xs → take (i + 1) xs ≡ take i xs ++ get_or xs i d ∷ []
one-more xs i d within = rw add-one (take-suc xs i d within)

where-one : {C : Type 0} (is : C → Bool) (row : Classed C) → times_where is (row ∷ []) ≡ cond (is row.class) row.row.times 0
where-one is row = by_test (is row.class)
  where
    by_test : (t : Bool) → sum_by (λ r. r.row.times) (cond t (row ∷ []) []) ≡ cond t row.row.times 0
    by_test true = omega arith
    by_test false = refl

pub where-next : {C : Type 0} (is : C → Bool) (rows : List (Classed C)) (i : ℕ) (d : Classed C) → i < length rows
    → times_where is (take (i + 1) rows) ≡ times_where is (take i rows) + cond (is (get_or rows i d).class) (get_or rows i d).row.times 0
where-next is rows i d within =
    let row = get_or rows i d in
    ap (times_where is) (one-more rows i d within)
    ∙ ap (sum_by (λ r. r.row.times)) (filter-append (λ r. is r.class) (take i rows) (row ∷ []))
    ∙ sum_by-append (λ r. r.row.times) (filter (λ r. is r.class) (take i rows)) (filter (λ r. is r.class) (row ∷ []))
    ∙ ap (λ (n : ℕ). times_where is (take i rows) + n) (where-one is row)

pub all-next : {C : Type 0} (rows : List (Classed C)) (i : ℕ) (d : Classed C) → i < length rows
    → all_times (take (i + 1) rows) ≡ all_times (take i rows) + (get_or rows i d).row.times
all-next rows i d within = ap all_times (one-more rows i d within) ∙ sum_by_push (λ r. r.row.times) (take i rows) (get_or rows i d)

pub all-within : {C : Type 0} (rows : List (Classed C)) (i : ℕ) → all_times (take i rows) ≤ all_times rows
all-within rows i = sum_by-take-le (λ r. r.row.times) rows i

pub where-within : {C : Type 0} (is : C → Bool) (rows : List (Classed C)) → times_where is rows ≤ all_times rows
where-within is [] = omega arith
where-within is (row ∷ rows) = by_test (is row.class) (where-within is rows)
  where
    by_test : (t : Bool) → times_where is rows ≤ all_times rows → sum_by (λ r. r.row.times) (cond t (row ∷ filter (λ r. is r.class) rows) (filter (λ r. is r.class) rows)) ≤ all_times (row ∷ rows)
    by_test true less = omega (arith, less, sum_by-cons (λ r. r.row.times) row (filter (λ r. is r.class) rows), sum_by-cons (λ r. r.row.times) row rows)
    by_test false less = omega (arith, less, sum_by-cons (λ r. r.row.times) row rows)

-- one row more of a kind stays within what all rows stand for
pub where-fits : {C : Type 0} (is : C → Bool) (rows : List (Classed C)) (i : ℕ) (d : Classed C) (counted most : ℕ)
    → counted ≡ times_where is (take i rows) → all_times rows ≤ most → i < length rows → counted + (get_or rows i d).row.times ≤ most
where-fits is rows i d counted most so_far few within =
    omega (arith, so_far, few, where-within is (take i rows), all-next rows i d within, all-within rows (i + 1))

-- the lines of the rows up to one that has none, and up to one that has
lines-step : (rows : List (Classed Class)) (i : ℕ) (d : Classed Class) (reason : Reason) → i < length rows
    → lines_for (take (i + 1) rows) reason ≡ lines_for (take i rows) reason ++ lines_for (get_or rows i d ∷ []) reason
lines-step rows i d reason within =
    let row = get_or rows i d in
    ap (λ (rs : List (Classed Class)). lines_for rs reason) (one-more rows i d within)
    ∙ ap (flat_map (line_for reason)) (filter-append (λ r. is_unmapped reason r.class) (take i rows) (row ∷ []))
    ∙ flat_map-append (line_for reason) (filter (λ r. is_unmapped reason r.class) (take i rows)) (filter (λ r. is_unmapped reason r.class) (row ∷ []))

pub lines-with : (out : List ℕ) (rows : List (Classed Class)) (i : ℕ) (d : Classed Class) (reason : Reason) → i < length rows → is_unmapped reason (get_or rows i d).class ≡ true
    → (out ++ lines_for (take i rows) reason) ++ line_for reason (get_or rows i d) ≡ out ++ lines_for (take (i + 1) rows) reason
lines-with out rows i d reason within is =
    let row = get_or rows i d in
    let one : lines_for (row ∷ []) reason ≡ line_for reason row = ap (λ (t : Bool). flat_map (line_for reason) (cond t (row ∷ []) [])) is ∙ append-nil (line_for reason row) in
    append_assoc out (lines_for (take i rows) reason) (line_for reason row)
    ∙ ap (λ (t : List ℕ). out ++ (lines_for (take i rows) reason ++ t)) (sym one) ∙ ap (λ (t : List ℕ). out ++ t) (sym (lines-step rows i d reason within))

pub lines-without : (out : List ℕ) (rows : List (Classed Class)) (i : ℕ) (d : Classed Class) (reason : Reason) → i < length rows → is_unmapped reason (get_or rows i d).class ≡ false
    → out ++ lines_for (take i rows) reason ≡ out ++ lines_for (take (i + 1) rows) reason
lines-without out rows i d reason within is =
    let row = get_or rows i d in
    let none : lines_for (row ∷ []) reason ≡ [] = ap (λ (t : Bool). flat_map (line_for reason) (cond t (row ∷ []) [])) is in
    ap (λ (t : List ℕ). out ++ t) (sym (append-nil (lines_for (take i rows) reason)) ∙ ap (λ (t : List ℕ). lines_for (take i rows) reason ++ t) (sym none) ∙ sym (lines-step rows i d reason within))
