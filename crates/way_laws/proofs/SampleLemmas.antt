-- A good branch text has fewer than 2^32 branches, and no more ranges than branches.
use Rattle.std.proofs.Common.{◌≡◌, ◌≤◌, ◌+◌, ◌-◌, ℕ, nat_lt, not, ◌&&◌, Bool, true, false, List, [], ◌∷◌, ◌++◌, drop, length, map, take, zip, Option, None, Some, refl, sym, ap, subst, ◌∙◌, inl, inr, arith, append_assoc, append-nil}
use Rattle.std.specs.List.{enumerate_from, flat_map}
use Rattle.std.specs.Option.{option_map}
use Rattle.std.proofs.lemmas.Bool.{cases_lt, lt-ltb}
use Rattle.std.proofs.lemmas.Grind.{flat_map-append}
use Rattle.std.proofs.lemmas.List.{length-append, length-map, take_at}
use Rattle.std.proofs.lemmas.Slice.Zip.{length-zip}
use Rattle.refusal.specs.declared.kind.Kind.{Kind}
use Rattle.refusal.specs.declared.kind.Kind.TheVariants.{BadLine, FileTooLarge, LineTooLong, TooManyBranches, TooManyEntries}
use Rattle.refusal.specs.Place.{fails_at, first_bad, first_cause, size_item}
use Rattle.refusal.proofs.PlaceLemmas.{first_bad-append, first_bad-none, option_or-none}
use Rattle.text_model.specs.Lines.{lines_of}
use Rattle.sample_model.proofs.JudgingLemmas.{judged_lines_of-whole}
use Rattle.sample_model.specs.Judging.{cause_of_line, first_bad_of_text, item_of_line, items_of_lines, judged_lines_of}
use Rattle.sample_model.specs.Limits.{max_branches, max_entries, max_line_bytes, max_text_bytes}
use Rattle.sample_model.specs.Line.{branches_of_line, is_sample, is_well_formed}
use Rattle.sample_model.specs.Loads.{loads_of}
use Rattle.sample_model.specs.Moves.{LoadMap, MovedBranch, branches_by, moved_branch, moved_line, moved_lines, moved_range_between, moved_ranges, ranges_by}
use Rattle.sample_model.specs.declared.load.Load.{Load}
use Rattle.sample_model.specs.Samples.{branches_of_lines, range_between, ranges_between, ranges_of_line, ranges_of_lines}
use Rattle.sample_model.proofs.MoveLemmas.{moved_branches}

-- ---- no more branches than there may be

no_cause : {X : Type 0} (f : Kind → X) (cause : Option Kind) → option_map f cause ≡ None → cause ≡ None
no_cause f None is = refl
no_cause f (Some kind) is = absurd cc

not_many : (long bad many : Bool) (n : ℕ) → first_cause ((long, LineTooLong) ∷ (bad, BadLine) ∷ (many, TooManyEntries) ∷ (nat_lt max_branches n, TooManyBranches) ∷ []) ≡ None → n ≤ max_branches
not_many true bad many n none = absurd cc
not_many false true many n none = absurd cc
not_many false false true n none = absurd cc
not_many false false false n none = elim (cases_lt max_branches n) as (λ _. n ≤ max_branches) [
  | inl over ↦ absurd (some (nat_lt max_branches n) (lt-ltb max_branches n over) none)
  | inr few ↦ few
]
  where
    some : (b : Bool) → b ≡ true → first_cause ((b, TooManyBranches) ∷ []) ≡ None → ⊥
    some true e f = absurd cc
    some false e f = absurd cc

few_here : (before : ℕ) (line : List ℕ) → cause_of_line before line ≡ None → before + length (branches_of_line line) ≤ max_branches
unfolding cause_of_line
few_here before line none =
    not_many (nat_lt max_line_bytes (length line)) (is_sample line && not (is_well_formed line)) (nat_lt max_entries (length (branches_of_line line))) (before + length (branches_of_line line)) none

with_line : (done : List (List ℕ)) (line : List ℕ) → length (branches_of_lines (done ++ line ∷ [])) ≡ length (branches_of_lines done) + length (branches_of_line line)
with_line done line =
    ap length (flat_map-append branches_of_line done (line ∷ [])) ∙ length-append (branches_of_lines done) (branches_of_line line ++ [])
    ∙ ap (λ (bs : List (ℕ × ℕ)). length (branches_of_lines done) + length bs) (append-nil (branches_of_line line))

few_behind : (file : ℕ) (lines done rest : List (List ℕ)) (n : ℕ) → lines ≡ done ++ rest → n ≡ length done + 1 → length (branches_of_lines done) ≤ max_branches
    → first_bad (map (item_of_line file lines) (enumerate_from n rest)) ≡ None → length (branches_of_lines lines) ≤ max_branches
few_behind file lines done [] n is size few good = subst (λ (ls : List (List ℕ)). length (branches_of_lines ls) ≤ max_branches) (sym (is ∙ append-nil done)) few
few_behind file lines done (line ∷ rest) n is size few good =
    let items = first_bad-none _ _ good in
    let number : n - 1 ≡ length done = omega (arith, size) in
    let before : take (n - 1) lines ≡ done = (λ i. take (number i) (is i)) ∙ take_at done (line ∷ rest) (length done) refl in
    let none : cause_of_line (length (branches_of_lines done)) line ≡ None =
    subst (λ (ls : List (List ℕ)). cause_of_line (length (branches_of_lines ls)) line ≡ None) before (no_cause (λ kind. record { file = file; at = n; kind = kind }) _ items.0) in
    let so_far : length (branches_of_lines (done ++ line ∷ [])) ≤ max_branches = let here = few_here (length (branches_of_lines done)) line none in let both = with_line done line in omega (arith, here, both) in
    let longer = length-append done (line ∷ []) in
    few_behind file lines (done ++ line ∷ []) rest (n + 1) (is ∙ sym (append_assoc done (line ∷ []) rest)) (omega (arith, size, longer)) so_far items.1

small_text : (file : ℕ) (text : List ℕ) → size_item file max_text_bytes text ≡ None → length text ≤ max_text_bytes
small_text file text none = elim (cases_lt max_text_bytes (length text)) as (λ _. length text ≤ max_text_bytes) [
  | inl over ↦ absurd (some (nat_lt max_text_bytes (length text)) (lt-ltb max_text_bytes (length text) over) none)
  | inr few ↦ few
]
  where
    some : (b : Bool) → b ≡ true → fails_at b (record { file = file; at = max_text_bytes; kind = FileTooLarge }) ≡ None → ⊥
    some true e f = absurd cc
    some false e f = absurd cc

pub branches_are_few : (file : ℕ) (text : List ℕ) → first_bad_of_text file text ≡ None → length (branches_of_lines (lines_of text)) ≤ max_branches
unfolding items_of_lines
branches_are_few file text good =
    let parts = option_or-none _ _ (sym (first_bad-append (items_of_lines file (judged_lines_of text)) (size_item file max_text_bytes text ∷ [])) ∙ good) in
    let small = small_text file text (first_bad-none _ [] parts.1).0 in
    let all = judged_lines_of-whole text small in
    few_behind file (lines_of text) [] (lines_of text) 1 refl refl (omega arith)
    (subst (λ (ls : List (List ℕ)). first_bad (map (item_of_line file ls) (enumerate_from 1 ls)) ≡ None) all parts.0)

-- ---- moved or not, there are as many, and no more ranges

pub branches_by_few : (loading : Option LoadMap) (lines : List (List ℕ)) → length (branches_by loading lines) ≡ length (branches_of_lines lines)
branches_by_few None lines = refl
branches_by_few (Some loading) lines = moved_branches loading [] lines

between_few : (branches : List (ℕ × ℕ)) → length (ranges_between branches) ≤ length branches
unfolding ranges_between
between_few branches = let size = length-map (zip branches (drop 1 branches)) range_between in let short = length-zip branches (drop 1 branches) in omega (arith, size, short)

moved_few : (branches : List MovedBranch) → length (moved_ranges branches) ≤ length branches
unfolding moved_ranges
moved_few branches = let size = length-map (zip branches (drop 1 branches)) moved_range_between in let short = length-zip branches (drop 1 branches) in omega (arith, size, short)

ranges_few : (lines : List (List ℕ)) → length (ranges_of_lines lines) ≤ length (branches_of_lines lines)
ranges_few [] = omega arith
ranges_few (line ∷ lines) =
    let both = length-append (ranges_of_line line) (ranges_of_lines lines) in
    let all = length-append (branches_of_line line) (branches_of_lines lines) in
    let here = between_few (branches_of_line line) in
    let rest = ranges_few lines in
    omega (arith, both, all, here, rest)

moved_ranges_few : (loading : LoadMap) (before : List Load) (lines : List (List ℕ)) → length (flat_map moved_ranges (moved_lines loading before lines)) ≤ length (branches_of_lines lines)
moved_ranges_few loading before [] = omega arith
moved_ranges_few loading before (line ∷ lines) =
    let more = before ++ loads_of loading.name (line ∷ []) in
    let both = length-append (moved_ranges (moved_line loading.segments before line)) (flat_map moved_ranges (moved_lines loading more lines)) in
    let all = length-append (branches_of_line line) (branches_of_lines lines) in
    let here = moved_few (moved_line loading.segments before line) in
    let same = length-map (branches_of_line line) (moved_branch loading.segments before) in
    let rest = moved_ranges_few loading more lines in
    omega (arith, both, all, here, same, rest)

pub ranges_by_few : (loading : Option LoadMap) (lines : List (List ℕ)) → length (ranges_by loading lines) ≤ length (branches_of_lines lines)
ranges_by_few None lines = ranges_few lines
ranges_by_few (Some loading) lines = moved_ranges_few loading [] lines
