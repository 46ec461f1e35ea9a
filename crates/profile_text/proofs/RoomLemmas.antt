-- How deep a line stands that was read, and how many targets it can have.
use Rattle.std.proofs.Common.{◌≡◌, ℕ, suc, ◌+◌, ◌<◌, ◌≤◌, Bool, true, false, cond, List, [], ◌∷◌, length, refl, sym, ap, subst, arith, length-drop}
use Rattle.std.specs.Prelude.{◌==◌, Option, Some, None, if◌then◌else◌}
use Rattle.std.specs.List.{count_by}
use Rattle.std.specs.Option.{option_map}
use Rattle.std.proofs.lemmas.Bool.{eqb-false}
use Rattle.std.proofs.lemmas.List.Sums.{sum_by-cons}
use Rattle.std.proofs.lemmas.List.Splits.{length-slice_split}
use Rattle.std.proofs.lemmas.Option.{same_Some}
use Rattle.profile_model.specs.Names.{is_name}
use Rattle.profile_model.specs.Profile.{Line, function_line, body_line, call_line}
use Rattle.profile_model.specs.Reading.{◌>>=◌, number_within, named_of, targets_of, call_of, body_by, behind_location, location_of, line_below, function_of, line_of, spaces_of, behind_spaces, parts_at, space, colon}
use Rattle.profile_text.specs.Draft.{room_of}

-- a line that is no function's stands below one
abbrev pub IsDeep : Line → Type 0
IsDeep (function_line name total head) = Unit {0}
IsDeep (body_line depth offset disc count targets) = 0 < depth
IsDeep (call_line depth offset disc name total) = 0 < depth

-- such a line, with room for its targets among so many bytes
abbrev Fits : ℕ → Line → Type 0
Fits n line = (room_of line ≤ n) × IsDeep line

along : (n : ℕ) (found line : Line) → Fits n found → Some found ≡ Some line → Fits n line
along n found line fits is = subst (Fits n) (same_Some found line is) fits

counted : (p : ℕ → Bool) (xs : List ℕ) → count_by p xs ≤ length xs
counted p [] = omega arith
counted p (x ∷ xs) = rw (sum_by-cons (λ y. cond (p y) 1 0) x xs) (step (p x) (count_by p xs) (length xs) (counted p xs))
  where
    step : (b : Bool) (m n : ℕ) → m ≤ n → cond b 1 0 + m ≤ suc n
    step true m n le = omega arith
    step false m n le = omega arith

few_parts : (byte : ℕ) (text : List ℕ) → length (parts_at byte text) ≤ length text + 1
few_parts byte text = omega (arith, length-slice_split (λ b. b == byte) text, counted (λ b. b == byte) text)

-- ---- functions

function_fits : (n : ℕ) (parts : List (List ℕ)) (line : Line) → length parts ≤ n + 1 → function_of parts ≡ Some line → Fits n line
unfolding function_of
function_fits n [] line few is = absurd (cc)
function_fits n (a ∷ []) line few is = absurd (cc)
function_fits n (a ∷ b ∷ []) line few is = absurd (cc)
function_fits n (name ∷ total ∷ head ∷ []) line few is = by_parts (is_name name) (number_within 64 total) (number_within 64 head) is
  where
    by_parts : (named : Bool) (t h : Option ℕ) → (if named then (t >>= (λ t. h >>= (λ h. Some (function_line name t h)))) else None) ≡ Some line → Fits n line
    by_parts false t h is = absurd (cc)
    by_parts true None h is = absurd (cc)
    by_parts true (Some t) None is = absurd (cc)
    by_parts true (Some t) (Some h) is = along n (function_line name t h) line (omega (arith, few), tt) is
function_fits n (a ∷ b ∷ c ∷ d ∷ parts) line few is = absurd (cc)

-- ---- lines below

targets_len : (words : List (List ℕ)) (targets : List (List ℕ × ℕ)) → targets_of words ≡ Some targets → length targets ≡ length words
unfolding targets_of
targets_len [] targets is = ap length (sym (same_Some [] targets is))
targets_len (word ∷ words) targets is = by_parts (named_of word) (targets_of words) (λ rest same. targets_len words rest same) is
  where
    by_parts : (first : Option (List ℕ × ℕ)) (others : Option (List (List ℕ × ℕ))) → ((rest : List (List ℕ × ℕ)) → others ≡ Some rest → length rest ≡ length words)
        → (first >>= (λ t. others >>= (λ ts. Some (t ∷ ts)))) ≡ Some targets → length targets ≡ suc (length words)
    by_parts None others lens is = absurd (cc)
    by_parts (Some t) None lens is = absurd (cc)
    by_parts (Some t) (Some ts) lens is =
        let same : t ∷ ts ≡ targets = same_Some (t ∷ ts) targets is in
        omega (arith, ap length (sym same), lens ts refl)

body_fits : (n depth : ℕ) (location : ℕ × ℕ) (count : ℕ) (words : List (List ℕ)) (line : Line) → 0 < depth → length words + 1 ≤ n
    → body_by depth location count words ≡ Some line → Fits n line
body_fits n depth location count words line deep few is = by_targets (targets_of words) refl is
  where
    by_targets : (targets : Option (List (List ℕ × ℕ))) → targets_of words ≡ targets
        → option_map (body_line depth location.0 location.1 count) targets ≡ Some line → Fits n line
    by_targets None read is = absurd (cc)
    by_targets (Some targets) read is =
        along n (body_line depth location.0 location.1 count targets) line (omega (arith, few, targets_len words targets read), deep) is

call_fits : (n depth : ℕ) (location : ℕ × ℕ) (word : List ℕ) (words : List (List ℕ)) (line : Line) → 0 < depth → 1 ≤ n
    → call_of depth location word words ≡ Some line → Fits n line
unfolding call_of
call_fits n depth location word [] line deep few is = by_callee (named_of word) is
  where
    by_callee : (callee : Option (List ℕ × ℕ)) → option_map (λ callee. call_line depth location.0 location.1 callee.0 callee.1) callee ≡ Some line → Fits n line
    by_callee None is = absurd (cc)
    by_callee (Some callee) is = along n (call_line depth location.0 location.1 callee.0 callee.1) line (omega (arith, few), deep) is
call_fits n depth location word (w ∷ words) line deep few is = absurd (cc)

below_fits : (n depth : ℕ) (parts : List (List ℕ)) (line : Line) → 0 < depth → length parts ≤ n + 1 → line_below depth parts ≡ Some line → Fits n line
unfolding line_below
below_fits n depth [] line deep few is = absurd (cc)
below_fits n depth (a ∷ []) line deep few is = absurd (cc)
below_fits n depth (word ∷ next ∷ words) line deep few is = by_parts (location_of word) (number_within 64 next) is
  where
    by_parts : (location : Option (ℕ × ℕ)) (number : Option ℕ) → (location >>= (λ l. behind_location depth l number next words)) ≡ Some line → Fits n line
    by_parts None number is = absurd (cc)
    by_parts (Some location) None is = call_fits n depth location next words line deep (omega (arith, few)) is
    by_parts (Some location) (Some count) is = body_fits n depth location count words line deep (omega (arith, few)) is

pub line_fits : (bytes : List ℕ) (line : Line) → line_of bytes ≡ Some line → (room_of line ≤ length bytes) × IsDeep line
unfolding line_of
line_fits bytes line is = by_spaces (spaces_of bytes == 0) refl is
  where
    by_spaces : (b : Bool) → (spaces_of bytes == 0) ≡ b
        → (if b then function_of (parts_at colon bytes) else line_below (spaces_of bytes) (parts_at space (behind_spaces bytes))) ≡ Some line
        → Fits (length bytes) line
    by_spaces true none is = function_fits (length bytes) (parts_at colon bytes) line (few_parts colon bytes) is
    by_spaces false some is =
        let deep : 0 < spaces_of bytes = omega (arith, eqb-false (spaces_of bytes) 0 some) in
        below_fits (length bytes) (spaces_of bytes) (parts_at space (behind_spaces bytes)) line deep
        (omega (arith, few_parts space (behind_spaces bytes), length-drop (spaces_of bytes) bytes)) is
