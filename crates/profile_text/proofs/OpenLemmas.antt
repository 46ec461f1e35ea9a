-- The path of the lines that are open, with one line more.
use Rattle.std.proofs.Common.{◌≡◌, ℕ, zero, suc, ◌+◌, ◌<◌, ◌≤◌, Bool, true, false, List, [], ◌∷◌, ◌++◌, Some, map, take, length, refl, sym, ap, arith, ◌∙◌, inl, inr, cond, get_or, length-append}
use Rattle.std.specs.Prelude.{◌==◌, ◌||◌, nat_le, slice_get}
use Rattle.std.specs.Option.{unwrap_or}
use Rattle.std.proofs.lemmas.Bool.{lt-ltb, le-ltb, cases_lt}
use Rattle.std.proofs.lemmas.Option.{slice_get_within, slice_get-get_or}
use Rattle.std.proofs.lemmas.Bool.Decides.{nat_tests}
use Rattle.std.proofs.lemmas.List.{take_all, take-append-le, length-take-le, map-append}
use Rattle.profile_model.specs.Profile.{Line, function_line, body_line, call_line}
use Rattle.profile_model.specs.Standing.{depth_of, step_of, encloses, can_stand, way_above, way_of}
use Rattle.profile_model.specs.Ways.{Step}
use Rattle.profile_tree.specs.Steps.{NumberedStep, at_function, at_line, at_call, named, name_at}
use Rattle.profile_text.specs.Draft.{Kept, IsGivenStep, AreGiven, IsPath}

-- ---- names that were given

pub name_kept : (names more : List (List ℕ)) (id : ℕ) (name : List ℕ) → Kept names more → slice_get names id ≡ Some name → name_at more id ≡ name
name_kept names more id name kept is = ap (λ o. unwrap_or o []) (kept id name is)

pub kept_on : {T : Type 0} (items more last : List T) → Kept items more → Kept more last → Kept items last
kept_on items more last one two = λ n x is. two n x (one n x is)

-- nothing is lost
pub kept_grows : {T : Type 0} (items more : List T) → Kept items more → length items ≤ length more
kept_grows [] more kept = omega arith
kept_grows (x ∷ items) more kept =
    let last : length items < length (x ∷ items) = omega arith in
    let there = slice_get-get_or (x ∷ items) (length items) x last in
    let within = slice_get_within more (length items) (get_or (x ∷ items) (length items) x) (kept (length items) (get_or (x ∷ items) (length items) x) there) in
    omega (arith, within)

pub step_grows : (m n : ℕ) → m ≤ n → (step : NumberedStep) → IsGivenStep m step → IsGivenStep n step
step_grows m n le (at_function name) given = omega (arith, given)
step_grows m n le (at_line offset disc) given = tt
step_grows m n le (at_call offset disc name) given = omega (arith, given)

pub steps_grow : (m n : ℕ) → m ≤ n → (steps : List NumberedStep) → AreGiven m steps → AreGiven n steps
steps_grow m n le [] given = tt
steps_grow m n le (step ∷ steps) given = (step_grows m n le step given.0, steps_grow m n le steps given.1)

pub take_given : (n : ℕ) (depth : ℕ) (steps : List NumberedStep) → AreGiven n steps → AreGiven n (take depth steps)
take_given n zero steps given = tt
take_given n (suc depth) [] given = tt
take_given n (suc depth) (step ∷ steps) given = (given.0, take_given n depth steps given.1)

pub both_given : (n : ℕ) (steps more : List NumberedStep) → AreGiven n steps → AreGiven n more → AreGiven n (steps ++ more)
both_given n [] more given last = last
both_given n (step ∷ steps) more given last = (given.0, both_given n steps more given.1 last)

-- ---- where lines can stand

-- whether lines can stand below a line
abbrev pub opens : Line → Bool
opens (function_line name total head) = true
opens (body_line depth offset disc count targets) = false
opens (call_line depth offset disc name total) = true

-- what a line adds to the path
abbrev pub added : Bool → NumberedStep → List NumberedStep
added false step = []
added true step = step ∷ []

encloses_told : (line : Line) (depth : ℕ) → depth_of line < depth → encloses depth line ≡ nat_le depth (depth_of line + cond (opens line) 1 0)
encloses_told (function_line name total head) depth below = grind (arith, nat_tests)
encloses_told (body_line above offset disc count targets) depth below = grind (arith, nat_tests)
encloses_told (call_line above offset disc name total) depth below = grind (arith, nat_tests)

stands_below : (line : Line) (before : List Line) (depth : ℕ) → depth_of line < depth → can_stand (line ∷ before) depth ≡ encloses depth line
unfolding can_stand
stands_below line before depth below =
    let deep : (depth == 0) ≡ false = grind (arith, nat_tests) in
    rw (deep, lt-ltb (depth_of line) depth below)

stands_above : (line : Line) (before : List Line) (depth : ℕ) → depth ≤ depth_of line → can_stand (line ∷ before) depth ≡ can_stand before depth
unfolding can_stand
stands_above line before depth above = rw (le-ltb (depth_of line) depth above)

way_below : (line : Line) (before : List Line) (depth : ℕ) → depth_of line < depth → way_above (line ∷ before) depth ≡ way_of before line
unfolding way_above
way_below line before depth below = rw (lt-ltb (depth_of line) depth below)

way_beside : (line : Line) (before : List Line) (depth : ℕ) → depth ≤ depth_of line → way_above (line ∷ before) depth ≡ way_above before depth
unfolding way_above
way_beside line before depth above = rw (le-ltb (depth_of line) depth above)

length_added : (b : Bool) (step : NumberedStep) → length (added b step) ≡ cond b 1 0
length_added true step = refl
length_added false step = refl

added_given : (n : ℕ) (b : Bool) (step : NumberedStep) → IsGivenStep n step → AreGiven n (added b step)
added_given n true step given = (given, tt)
added_given n false step given = tt

pub length_more : (path : List NumberedStep) (depth : ℕ) (b : Bool) (step : NumberedStep) → depth ≤ length path → length (take depth path ++ added b step) ≡ depth + cond b 1 0
length_more path depth b step le =
    omega (arith, length-append (take depth path) (added b step), length-take-le depth path le, length_added b step)

take_twice : (path : List NumberedStep) (m n : ℕ) → m ≤ n → take m (take n path) ≡ take m path
take_twice path zero n le = refl
take_twice path (suc m) zero le = absurd (omega (arith, le))
take_twice [] (suc m) (suc n) le = refl
take_twice (step ∷ path) (suc m) (suc n) le = ap (λ (steps : List NumberedStep). step ∷ steps) (take_twice path m n (omega (arith, le)))

-- a line that can stand here was read
pub path_more : (names more : List (List ℕ)) (path : List NumberedStep) (before : List Line) (line : Line) (step : NumberedStep)
    → IsPath names path before → Kept names more → length names ≤ length more → depth_of line ≤ length path → IsGivenStep (length more) step
    → ((last : List (List ℕ)) → Kept more last → named last step ≡ step_of line)
    → IsPath more (take (depth_of line) path ++ added (opens line) step) (line ∷ before)
path_more names more path before line step is kept grown within given tells = record {
  given = both_given (length more) (take (depth_of line) path) (added (opens line) step)
      (take_given (length more) (depth_of line) path (steps_grow (length names) (length more) grown path is.given))
      (added_given (length more) (opens line) step given);
  stands = λ depth. elim (cases_lt (depth_of line) depth) [
    | inl below ↦ stands_below line before depth below ∙ encloses_told line depth below ∙ ap (nat_le depth) (sym (length_more path (depth_of line) (opens line) step within))
    | inr above ↦
        stands_above line before depth above ∙ is.stands depth
        ∙ yes depth (length path) (omega (arith, above, within)) ∙ sym (yes depth (length (take (depth_of line) path ++ added (opens line) step)) (omega (arith, above, length_more path (depth_of line) (opens line) step within)))
  ];
  above = λ last more_kept depth deep. elim (cases_lt (depth_of line) depth) [
    | inl below ↦
        let len = length_more path (depth_of line) (opens line) step within in
        way_below line before depth below
        ∙ ap (λ way. way ++ step_of line ∷ []) (is.above last (kept_on names more last kept more_kept) (depth_of line) within)
        ∙ ap (λ s. map (named last) (take (depth_of line) path) ++ s ∷ []) (sym (tells last more_kept))
        ∙ opened_way (opens line) refl (omega (arith, deep, len)) last
        ∙ ap (map (named last)) (sym (take_all depth (take (depth_of line) path ++ added (opens line) step) (omega (arith, below, len, at_most (opens line)))))
    | inr above ↦
        let short = length-take-le (depth_of line) path within in
        way_beside line before depth above
        ∙ is.above last (kept_on names more last kept more_kept) depth (omega (arith, above, within))
        ∙ ap (map (named last)) (sym (take-append-le depth (take (depth_of line) path) (added (opens line) step) (omega (arith, above, short)) ∙ take_twice path depth (depth_of line) above))
  ];
}
  where
    yes : (m n : ℕ) → m ≤ n → nat_le m n ≡ true
    yes m n le = grind (arith, nat_tests)

    at_most : (b : Bool) → cond b 1 0 ≤ 1
    at_most true = omega arith
    at_most false = omega arith

    opened_way : (b : Bool) → opens line ≡ b → 0 < cond b 1 0 → (last : List (List ℕ))
        → map (named last) (take (depth_of line) path) ++ named last step ∷ [] ≡ map (named last) (take (depth_of line) path ++ added b step)
    opened_way true is_b some last = sym (map-append (named last) (take (depth_of line) path) (step ∷ []))
    opened_way false is_b some last = absurd (omega (arith, some))

pub path_none : (names : List (List ℕ)) → IsPath names [] []
unfolding can_stand way_above
path_none names = record {
  given = tt;
  stands = λ depth. none depth;
  above = λ more kept depth le. nowhere more depth;
}
  where
    none : (depth : ℕ) → ((depth == 0) || false) ≡ nat_le depth 0
    none depth = grind (arith, nat_tests)

    nowhere : (more : List (List ℕ)) (depth : ℕ) → [] ≡ map {A = NumberedStep} {B = Step} (named more) (take depth [])
    nowhere more zero = refl
    nowhere more (suc depth) = refl
