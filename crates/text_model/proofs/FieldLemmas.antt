-- The fields of a line, taken off its front one at a time.
use Rattle.std.proofs.Common.{◌≡◌, ℕ, suc, ◌<◌, ◌≤◌, ◌⊎◌, inl, inr, ◌∙◌, sym, ap, zero, Some, None, Bool, true, false, not, List, [], ◌∷◌, ◌++◌, refl, All, arith, length, drop, take, get_or, drop-cons, length-take, length-drop, add-zero}
use Rattle.std.proofs.Math.Seq.{split_at}
use Rattle.std.proofs.lemmas.Bool.{lt-ltb, le-ltb, cases_lt, not-false, not-true}
use Rattle.std.proofs.lemmas.List.{take_all, drop_all, get_or-take, get_or-drop}
use Rattle.std.proofs.lemmas.List.Quantifiers.{position-Some}
use Rattle.std.proofs.lemmas.List.Sums.{fails_before_first, passes_at_first, prefix_len-le-length}
use Rattle.std.specs.List.{position, position_or_len}
use Rattle.std.specs.Prelude.{unwrap_or}
use Rattle.std.proofs.lemmas.List.Splits.{slice_split_at, slice_split_none}
use Rattle.text_model.specs.Fields.{is_blank, fields_of}

pub fields_of-nil : fields_of [] ≡ []
unfolding fields_of
fields_of-nil = refl

-- a blank before the others
pub fields_of-blank : (b : ℕ) (line : List ℕ) → is_blank b ≡ true → fields_of (b ∷ line) ≡ fields_of line
unfolding fields_of
fields_of-blank b line blank = rw blank

-- a field that a blank ends
pub fields_of-ended : (field : List ℕ) (b : ℕ) (line : List ℕ) → 0 < length field → All (λ b. is_blank b ≡ false) field → is_blank b ≡ true → fields_of (field ++ b ∷ line) ≡ field ∷ fields_of line
unfolding fields_of
fields_of-ended field b line some clean blank =
    rw (slice_split_at is_blank field b line clean blank, lt-ltb 0 (length field) some)

-- a last field, that the line's end ends
pub fields_of-last : (field : List ℕ) → 0 < length field → All (λ b. is_blank b ≡ false) field → fields_of field ≡ field ∷ []
unfolding fields_of
fields_of-last field some clean = rw (slice_split_none is_blank field clean, lt-ltb 0 (length field) some)

-- blanks before the others
pub fields_of-blanks : (line : List ℕ) (n : ℕ) → n ≤ length line → ((k : ℕ) → k < n → is_blank (get_or line k 0) ≡ true) → fields_of line ≡ fields_of (drop n line)
fields_of-blanks line zero within blanks = refl
fields_of-blanks [] (suc n) within blanks = absurd (omega (arith, within))
fields_of-blanks (b ∷ line) (suc n) within blanks =
    fields_of-blank b line (blanks 0 (omega arith))
    ∙ fields_of-blanks line n (omega (arith, within)) (λ k below. blanks (suc k) (omega (arith, below)))

past_end : (p : ℕ → Bool) (line : List ℕ) → position p line ≡ None → length line ≤ position_or_len p line
past_end p line none =
    elim (cases_lt (position_or_len p line) (length line)) [
      | inl within ↦ let some : position p line ≡ Some (position_or_len p line) = rw (lt-ltb (position_or_len p line) (length line) within) in cc
      | inr past ↦ past
    ]

-- where a line begins with a field, what `position` finds
pub record IsFieldStart (line : List ℕ) (start : ℕ) : Type 0 where
  pub within : start < length line
  pub filled : is_blank (get_or line start 0) ≡ false
  pub same : fields_of line ≡ fields_of (drop start line)

pub first_filled_is : (line : List ℕ) (start : ℕ) → position (λ b. not (is_blank b)) line ≡ Some start → IsFieldStart line start
first_filled_is line start is =
    let found = position-Some (λ b. not (is_blank b)) line start 0 is in
    record {
      within = found.0;
      filled = not-true (is_blank (get_or line start 0)) found.1;
      same = fields_of-blanks line start (omega (arith, found.0)) (λ k below. not-false (is_blank (get_or line k 0)) (found.2 k below));
    }

-- a line of blanks has no field
pub no_filled_is : (line : List ℕ) → position (λ b. not (is_blank b)) line ≡ None → fields_of line ≡ []
no_filled_is line none =
    let past : length line ≤ position_or_len (λ b. not (is_blank b)) line = past_end (λ b. not (is_blank b)) line none in
    fields_of-blanks line (length line) (omega arith)
    (λ k below. not-false (is_blank (get_or line k 0)) (fails_before_first (λ b. not (is_blank b)) line k 0 (omega (arith, below, past))))
    ∙ rw (drop_all (length line) line (omega arith)) fields_of-nil

-- the bytes before the first blank are no blanks
pub before_blank : (line : List ℕ) → All (λ b. is_blank b ≡ false) (take (position_or_len is_blank line) line)
before_blank line k d within =
    let n = position_or_len is_blank line in
    let below : k < n = omega (arith, length-take n line) in
    rw (get_or-take n line k d below) (fails_before_first is_blank line k d below)

-- a field before the others
pub fields_of-first : (line : List ℕ) → 0 < position_or_len is_blank line → let n = position_or_len is_blank line in fields_of line ≡ take n line ∷ fields_of (drop n line)
fields_of-first line filled = on (cases_lt n (length line))
  where
    n : ℕ
    n = position_or_len is_blank line

    on : (n < length line) ⊎ (length line ≤ n) → fields_of line ≡ take n line ∷ fields_of (drop n line)
    on (inl within) =
        let blank = passes_at_first is_blank line 0 within in
        let some : 0 < length (take n line) = omega (arith, length-take n line) in
        let rest : fields_of (drop n line) ≡ fields_of (drop (suc n) line) = rw (drop-cons line n 0) (fields_of-blank (get_or line n 0) (drop (suc n) line) blank) in
        ap fields_of (split_at line n 0 within) ∙ fields_of-ended (take n line) (get_or line n 0) (drop (suc n) line) some (before_blank line) blank ∙ ap (λ fields. take n line ∷ fields) (sym rest)
    on (inr past) =
        let whole : take n line ≡ line = take_all n line past in
        let clean : All (λ b. is_blank b ≡ false) line = rw whole at (before_blank line) in
        let some : 0 < length line = omega (arith, filled, prefix_len-le-length (λ b. not (is_blank b)) line) in
        rw (whole, drop_all n line past, fields_of-nil) (fields_of-last line some clean)

-- what `position` finds where a field ends
pub record IsFieldEnd (line : List ℕ) (end : ℕ) : Type 0 where
  pub within : end ≤ length line
  pub some : 0 < end
  pub split : fields_of line ≡ take end line ∷ fields_of (drop end line)

position-unwrapped : (p : ℕ → Bool) (line : List ℕ) → unwrap_or (position p line) (length line) ≡ position_or_len p line
position-unwrapped p line =
    elim (cases_lt (position_or_len p line) (length line)) [
      | inl within ↦ rw (lt-ltb (position_or_len p line) (length line) within)
      | inr past ↦ rw (le-ltb (position_or_len p line) (length line) past) (omega (arith, past, prefix_len-le-length (λ b. not (p b)) line))
    ]

filled_front : (line : List ℕ) → 0 < length line → is_blank (get_or line 0 0) ≡ false → 0 < position_or_len is_blank line
filled_front [] some filled = absurd (omega (arith, some))
filled_front (b ∷ line) some filled = rw filled (omega arith)

pub field_end_is : (line : List ℕ) (end : ℕ) → 0 < length line → is_blank (get_or line 0 0) ≡ false → end ≡ unwrap_or (position is_blank line) (length line) → IsFieldEnd line end
field_end_is line end some filled is =
    let front = filled_front line some filled in
    rw (is ∙ position-unwrapped is_blank line) (record {
      within = prefix_len-le-length (λ b. not (is_blank b)) line;
      some = front;
      split = fields_of-first line front;
    })

-- the first field, between the two places that `position` finds
pub fields_of-split : (line part : List ℕ) (start end : ℕ) → position (λ b. not (is_blank b)) line ≡ Some start → part ≡ drop start line → end ≡ unwrap_or (position is_blank part) (length part) → fields_of line ≡ take end part ∷ fields_of (drop end part)
fields_of-split line part start end found cut is =
    let from = first_filled_is line start found in
    let some : 0 < length part = rw cut (omega (arith, length-drop start line, from.within)) in
    let filled : is_blank (get_or part 0 0) ≡ false = rw (cut, get_or-drop start line 0 0, add-zero) from.filled in
    from.same ∙ ap fields_of (sym cut) ∙ (field_end_is part end some filled is).split
