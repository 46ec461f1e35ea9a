-- A text without a bad place tells each of its numbers once.
use Rattle.std.proofs.Common.{◌≡◌, ◌≢◌, ℕ, Bool, true, false, List, [], ◌∷◌, ◌++◌, map, Some, None, Option, refl, sym, ap, ◌∙◌, arith}
use Rattle.std.proofs.lemmas.Bool.{true≢false, le-ltb, or_parts, or_left, or_right}
use Rattle.std.proofs.lemmas.List.Elements.{All-from_recursion}
use Rattle.std.proofs.lemmas.List.Kept.{AllPairs-cons}
use Rattle.std.specs.Prelude.{⊤}
use Rattle.std.specs.Cmp.Lexicographic.{bytes_decides}
use Rattle.std.specs.List.{AllByRecursion, list_any}
use Rattle.list_lemmas.proofs.Each.{all_append, all_then}
use Rattle.refusal.specs.declared.kind.Kind.{Kind}
use Rattle.refusal.specs.declared.kind.Kind.TheVariants.{TooDeep, BadIndent, KeyTwice}
use Rattle.refusal.specs.Place.{first_bad, first_cause}
use Rattle.profile_model.specs.Judging.{cause_of, cause_of_line, with_line, item, items_from, kept_lines_of}
use Rattle.profile_model.specs.Profile.{Line, function_line, body_line, call_line}
use Rattle.profile_model.specs.Reading.{line_of}
use Rattle.profile_model.specs.Spelled.{What, head, count, target, Number, numbers_on, numbers_of_line, numbers_from}
use Rattle.profile_model.specs.Standing.{depth_of, way_above, way_of, ways_of, targets_on, again_among, has_twice, tells_again}
use Rattle.profile_model.specs.Ways.{Way, to_function, same_name, same_way}
use Rattle.profile_model.proofs.StepLemmas.{way_itself}
use Rattle.profile_laws.specs.Once.{StandOnce, NumbersStandOnce}

-- ---- lists in which no two tell the same

abbrev Apart : {T U : Type 0} → (T → U) → List T → Type 0
Apart tell [] = ⊤
Apart tell (x ∷ items) = AllByRecursion (λ y. tell x ≢ tell y) items × Apart tell items

apart_once : {T U : Type 0} (tell : T → U) (items : List T) → Apart tell items → StandOnce tell items
apart_once tell [] apart = λ i j d less within. absurd (omega arith)
apart_once tell (x ∷ items) apart =
    AllPairs-cons (λ x y. tell x ≢ tell y) x items (All-from_recursion (λ y. tell x ≢ tell y) items apart.0) (apart_once tell items apart.1)

apart_both : {T U : Type 0} (tell : T → U) (items more : List T) → Apart tell items → Apart tell more
    → AllByRecursion (λ x. AllByRecursion (λ y. tell x ≢ tell y) more) items → Apart tell (items ++ more)
apart_both tell [] more apart behind all = behind
apart_both tell (x ∷ items) more apart behind all =
    (all_append (λ y. tell x ≢ tell y) items more apart.0 all.0, apart_both tell items more apart.1 behind all.1)

-- ---- the targets of a line

name_itself : (name : List ℕ) → same_name name name ≡ true
name_itself name = (bytes_decides name name).1 refl

abbrev names : List (List ℕ × ℕ) → List (List ℕ)
names targets = map (λ called. called.0) targets

-- a name that stood before is none of these
none_again : (name : List ℕ) (before : List (List ℕ)) (targets : List (List ℕ × ℕ)) → list_any (same_name name) before ≡ true
    → again_among before (names targets) ≡ false → AllByRecursion (λ called. name ≢ called.0) targets
unfolding again_among
none_again name before [] stood none = tt
none_again name before (called ∷ targets) stood none =
    let neither = or_parts (list_any (same_name called.0) before) (again_among (called.0 ∷ before) (names targets)) none in (
      λ same. true≢false (sym stood ∙ ap (λ n. list_any (same_name n) before) same ∙ neither.0),
      none_again name (called.0 ∷ before) targets (or_right (same_name name called.0) (list_any (same_name name) before) stood) neither.1,
    )

targets_apart : (before : List (List ℕ)) (targets : List (List ℕ × ℕ)) → again_among before (names targets) ≡ false
    → Apart (λ (called : List ℕ × ℕ). called.0) targets
unfolding again_among
targets_apart before [] none = tt
targets_apart before (called ∷ targets) none =
    let neither = or_parts (list_any (same_name called.0) before) (again_among (called.0 ∷ before) (names targets)) none in (
      none_again called.0 (called.0 ∷ before) targets (or_left (same_name called.0 called.0) (list_any (same_name called.0) before) (name_itself called.0)) neither.1,
      targets_apart (called.0 ∷ before) targets neither.1,
    )

-- ---- the numbers on a line

abbrev pub of_targets : ℕ → Way → List (List ℕ × ℕ) → List Number
of_targets at way targets = map (λ called. record { line = at; what = target way called.0; times = called.1 }) targets

target_name : (way : Way) (x y : List ℕ) → target way x ≡ target way y → x ≡ y
target_name way x y same = cc

no_target : (way : Way) (name : List ℕ) → count way ≡ target way name → ⊥
no_target way name same = cc

other_targets : (at : ℕ) (way : Way) (name : List ℕ) (targets : List (List ℕ × ℕ)) → AllByRecursion (λ called. name ≢ called.0) targets
    → AllByRecursion (λ (number : Number). target way name ≢ number.what) (of_targets at way targets)
other_targets at way name [] all = tt
other_targets at way name (called ∷ targets) all = (λ same. all.0 (target_name way name called.0 same), other_targets at way name targets all.1)

no_targets : (at : ℕ) (way : Way) (targets : List (List ℕ × ℕ)) → AllByRecursion (λ (number : Number). count way ≢ number.what) (of_targets at way targets)
no_targets at way [] = tt
no_targets at way (called ∷ targets) = (λ same. no_target way called.0 same, no_targets at way targets)

numbers_apart : (at : ℕ) (way : Way) (targets : List (List ℕ × ℕ)) → Apart (λ (called : List ℕ × ℕ). called.0) targets
    → Apart (λ (number : Number). number.what) (of_targets at way targets)
numbers_apart at way [] apart = tt
numbers_apart at way (called ∷ targets) apart = (other_targets at way called.0 targets apart.0, numbers_apart at way targets apart.1)

line_apart : (at : ℕ) (way : Way) (line : Line) → has_twice (names (targets_on line)) ≡ false → Apart (λ (number : Number). number.what) (numbers_on at way line)
line_apart at way (function_line name total entered) once = (tt, tt)
line_apart at way (body_line depth offset disc n targets) once = (no_targets at way targets, numbers_apart at way targets (targets_apart [] targets once))
line_apart at way (call_line depth offset disc name total) once = tt

-- ---- the way of the line on which a number stands

abbrev pub way_told : What → Way
way_told (head name) = to_function name ∷ []
way_told (count way) = way
way_told (target way name) = way

pub nothing_above : (before : List Line) → way_above before 0 ≡ []
unfolding way_above
nothing_above [] = refl
nothing_above (line ∷ before) = rw (le-ltb (depth_of line) 0 (omega arith)) (nothing_above before)

targets_way : (at : ℕ) (way : Way) (targets : List (List ℕ × ℕ)) → AllByRecursion (λ (number : Number). way_told number.what ≡ way) (of_targets at way targets)
targets_way at way [] = tt
targets_way at way (called ∷ targets) = (refl, targets_way at way targets)

line_way : (at : ℕ) (before : List Line) (line : Line) → AllByRecursion (λ (number : Number). way_told number.what ≡ way_of before line) (numbers_on at (way_of before line) line)
line_way at before (function_line name total entered) = (ap (λ (way : Way). way ++ to_function name ∷ []) (sym (nothing_above before)), tt)
line_way at before (body_line depth offset disc n targets) = (refl, targets_way at (way_of before (body_line depth offset disc n targets)) targets)
line_way at before (call_line depth offset disc name total) = tt

first_time : (way : Way) (ways : List Way) → list_any (same_way way) ways ≡ false → AllByRecursion (λ other. way ≢ other) ways
first_time way [] none = tt
first_time way (other ∷ ways) none =
    let neither = or_parts (same_way way other) (list_any (same_way way) ways) none in (
      λ same. true≢false (sym (way_itself way) ∙ ap (same_way way) same ∙ neither.0),
      first_time way ways neither.1,
    )

-- ---- lines

-- numbers that stand once, and none of them on a line with one of these ways
record Fresh (ways : List Way) (numbers : List Number) : Type 0 where
  apart : Apart (λ (number : Number). number.what) numbers
  new : AllByRecursion (λ (number : Number). AllByRecursion (λ way. way_told number.what ≢ way) ways) numbers

fresh_both : (way : Way) (ways : List Way) (numbers more : List Number) → Apart (λ (number : Number). number.what) numbers
    → AllByRecursion (λ (number : Number). way_told number.what ≡ way) numbers → AllByRecursion (λ other. way ≢ other) ways
    → Fresh (way ∷ ways) more → Fresh ways (numbers ++ more)
fresh_both way ways numbers more apart here first fresh = record {
  apart = apart_both (λ (number : Number). number.what) numbers more apart fresh.apart
      (all_then (λ (number : Number). way_told number.what ≡ way) (λ (number : Number). AllByRecursion (λ (other : Number). number.what ≢ other.what) more)
      (λ number is. all_then (λ (other : Number). AllByRecursion (λ w. way_told other.what ≢ w) (way ∷ ways)) (λ (other : Number). number.what ≢ other.what)
      (λ other news same. news.0 (ap way_told (sym same) ∙ is)) more fresh.new) numbers here);
  new = all_append (λ (number : Number). AllByRecursion (λ w. way_told number.what ≢ w) ways) numbers more
      (all_then (λ (number : Number). way_told number.what ≡ way) (λ (number : Number). AllByRecursion (λ w. way_told number.what ≢ w) ways)
      (λ number is. all_then (λ (w : Way). way ≢ w) (λ (w : Way). way_told number.what ≢ w) (λ w differs same. differs (sym is ∙ same)) ways first) numbers here)
      (all_then (λ (number : Number). AllByRecursion (λ w. way_told number.what ≢ w) (way ∷ ways)) (λ (number : Number). AllByRecursion (λ w. way_told number.what ≢ w) ways)
      (λ number news. news.1) more fresh.new);
}

not_again : (before : List Line) (line : Line) → cause_of before line ≡ None → tells_again before line ≡ false
unfolding cause_of
not_again before line free = by_answers _ _ (tells_again before line) free
  where
    by_answers : (deep out again : Bool) → first_cause ((deep, TooDeep) ∷ (out, BadIndent) ∷ (again, KeyTwice) ∷ []) ≡ None → again ≡ false
    by_answers true out again free = absurd (cc)
    by_answers false true again free = absurd (cc)
    by_answers false false true free = absurd (cc)
    by_answers false false false free = refl

line_fresh : (at : ℕ) (before : List Line) (line : Line) (more : List Number) → cause_of before line ≡ None
    → Fresh (ways_of (line ∷ before)) more → Fresh (ways_of before) (numbers_on at (way_of before line) line ++ more)
unfolding tells_again ways_of
line_fresh at before line more free fresh =
    let neither = or_parts (list_any (same_way (way_of before line)) (ways_of before)) (has_twice (names (targets_on line))) (not_again before line free) in
    fresh_both (way_of before line) (ways_of before) (numbers_on at (way_of before line) line) more
    (line_apart at (way_of before line) line neither.1) (line_way at before line) (first_time (way_of before line) (ways_of before) neither.0) fresh

lines_fresh : (file : ℕ) (before : List Line) (lines : List (ℕ × List ℕ)) → first_bad (items_from file before lines) ≡ None
    → Fresh (ways_of before) (numbers_from before lines)
unfolding items_from numbers_from
lines_fresh file before [] good = record { apart = tt; new = tt }
lines_fresh file before (line ∷ lines) good = by_line (line_of line.1) good (lines_fresh file (with_line before (line_of line.1)) lines)
  where
    by_cause : (said : Line) (cause : Option Kind) → cause_of before said ≡ cause → first_bad (item file line.0 cause ∷ items_from file (said ∷ before) lines) ≡ None
        → (first_bad (items_from file (said ∷ before) lines) ≡ None → Fresh (ways_of (said ∷ before)) (numbers_from (said ∷ before) lines))
        → Fresh (ways_of before) (numbers_on line.0 (way_of before said) said ++ numbers_from (said ∷ before) lines)
    by_cause said None is good rest = line_fresh line.0 before said (numbers_from (said ∷ before) lines) is (rest good)
    by_cause said (Some kind) is good rest = absurd (cc)

    by_line : (said : Option Line) → first_bad (item file line.0 (cause_of_line before said) ∷ items_from file (with_line before said) lines) ≡ None
        → (first_bad (items_from file (with_line before said) lines) ≡ None → Fresh (ways_of (with_line before said)) (numbers_from (with_line before said) lines))
        → Fresh (ways_of before) (numbers_of_line line.0 before said ++ numbers_from (with_line before said) lines)
    by_line None good rest = absurd (cc)
    by_line (Some said) good rest = by_cause said (cause_of before said) refl good rest

pub numbers_stand_once : NumbersStandOnce
numbers_stand_once file text good = apart_once (λ (number : Number). number.what) (numbers_from [] (kept_lines_of text)) (lines_fresh file [] (kept_lines_of text) good).apart
