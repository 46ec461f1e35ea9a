-- The spans of sequences, and the first sequence that holds an address.
use Rattle.std.proofs.Common.{◌≡◌, ℕ, suc, ◌+◌, ◌<◌, ◌≤◌, Bool, true, false, List, [], ◌∷◌, ◌++◌, Option, None, Some, refl, sym, ap, ◌∙◌, arith, length, take, drop, get_or, eqb, cond, add-zero, length-append, inl, inr}
use Rattle.std.specs.Prelude.{find, position, slice_get, filter, not, nat_lt, nat_le, ◌&&◌, if◌then◌else◌}
use Rattle.std.specs.Option.{option_or, option_map, option_and_then}
use Rattle.std.specs.List.{AllByRecursion, position_or_len}
use Rattle.std.proofs.Math.Seq.{take-suc}
use Rattle.std.proofs.lemmas.Option.{slice_get_past, slice_get-get_or}
use Rattle.std.proofs.lemmas.List.{length-take-le}
use Rattle.std.proofs.lemmas.List.Sums.{prefix_len-le-length}
use Rattle.std.proofs.lemmas.Bool.{cases_eq, ne_eqb, eq-eqb, lt-ltb}
use Rattle.std.proofs.lemmas.Bool.Decides.{nat_tests}
use Rattle.std.proofs.lemmas.List.Folds.{find_at, position_or_len_push}
use Rattle.address_spans.specs.declared.span.Span.{Span}
use Rattle.address_spans.specs.Spans.{owner_at}
use Rattle.address_spans.proofs.SpanLemmas.{owner-append}
use Rattle.line_model.specs.declared.row.Row.{Row}
use Rattle.line_model.specs.Rows.{Sequence, holds, with_range, row_in, is_live_sequence, live_sequences, never_fall, addresses_of, sequences_of}
use Rattle.elf_model.specs.Segments.{is_live}
use Rattle.row_table.specs.Index.{IsRising}
use Rattle.row_table.specs.Told.{data_of, told}

pushed : (n len : ℕ) (last : Bool) → n ≤ len → (if nat_lt (cond (eqb n len) (len + cond last 0 1) n) (len + 1) then Some (cond (eqb n len) (len + cond last 0 1) n) else None)
    ≡ option_or (if nat_lt n len then Some n else None) (if last then Some len else None)
pushed n len last within = elim (cases_eq n len) [
  | inl same ↦ at_end last same
  | inr other ↦
      rw (ne_eqb n len other, lt-ltb n (len + 1) (omega (arith, within)), lt-ltb n len (omega (arith, within, other))) refl
]
  where
    at_end : (last : Bool) → n ≡ len → (if nat_lt (cond (eqb n len) (len + cond last 0 1) n) (len + 1) then Some (cond (eqb n len) (len + cond last 0 1) n) else None)
        ≡ option_or (if nat_lt n len then Some n else None) (if last then Some len else None)
    at_end true same =
        let at : eqb n len ≡ true = eq-eqb n len same in
        let past : nat_lt n len ≡ false = grind (arith, nat_tests) in
        let room : nat_lt (len + 0) (len + 1) ≡ true = lt-ltb (len + 0) (len + 1) (omega arith) in
        rw (at, past, room, add-zero) refl
    at_end false same =
        let at : eqb n len ≡ true = eq-eqb n len same in
        let past : nat_lt n len ≡ false = grind (arith, nat_tests) in
        let full : nat_lt (len + 1) (len + 1) ≡ false = grind (arith, nat_tests) in
        rw (at, past, full) refl

pub position-push : {X : Type 0} (p : X → Bool) (xs : List X) (y : X) → position p (xs ++ y ∷ []) ≡ option_or (position p xs) (if p y then Some (length xs) else None)
position-push p xs y =
    ap (λ n. if nat_lt n (length (xs ++ y ∷ [])) then Some n else None) (position_or_len_push p xs y)
    ∙ ap (λ len. if nat_lt (last (position_or_len p xs)) len then Some (last (position_or_len p xs)) else None) (length-append xs (y ∷ []))
    ∙ pushed (position_or_len p xs) (length xs) (p y) (prefix_len-le-length (λ x. not (p x)) xs)
  where
    last : ℕ → ℕ
    last n = cond (eqb n (length xs)) (length xs + cond (p y) 0 1) n

-- the place of an element that passes, and that element
pub position-some : {X : Type 0} (p : X → Bool) (xs : List X) (k : ℕ) → Some k ≡ position p xs → (k < length xs) × (find p xs ≡ slice_get xs k)
position-some p xs k is =
    let found = pick (position_or_len p xs) (length xs) k is in
    (found.1, find_at p xs ∙ ap (slice_get xs) (sym found.0))
  where
    pick : (n len k : ℕ) → Some k ≡ (if nat_lt n len then Some n else None) → (k ≡ n) × (k < len)
    pick n len k is = grind (arith, nat_tests)

pub position-none : {X : Type 0} (p : X → Bool) (xs : List X) → None ≡ position p xs → find p xs ≡ None
position-none p xs is = find_at p xs ∙ slice_get_past xs (position_or_len p xs) (past (position_or_len p xs) (length xs) is)
  where
    past : (n len : ℕ) → ◌≡◌ {A = Option ℕ} None (if nat_lt n len then Some n else None) → len ≤ n
    past n len is = grind (arith, nat_tests)

-- the range of a sequence with rows, and of one without
pub range-some : (test : ℕ → ℕ → Bool) (s : Sequence) (row : Row) (rows : List Row) → s.rows ≡ row ∷ rows → with_range test s ≡ test row.address s.end.address
range-some test s row rows has = ap (λ (rs : List Row). with_range test (record { rows = rs; end = s.end })) has

pub range-none : (test : ℕ → ℕ → Bool) (s : Sequence) → s.rows ≡ [] → with_range test s ≡ false
range-none test s none = ap (λ (rs : List Row). with_range test (record { rows = rs; end = s.end })) none

-- the spans of the sequences up to a place tell the first of these that holds an address
pub record RangesSoFar (sequences : List Sequence) (i : ℕ) (spans : List Span) : Type 0 where
  pub first : (address : ℕ) → owner_at spans address ≡ position (holds address) (take i sequences)

one_more : (sequences : List Sequence) (i : ℕ) (s d : Sequence) (a : ℕ) → i < length sequences → s ≡ get_or sequences i d → position (holds a) (take (suc i) sequences) ≡ option_or (position (holds a) (take i sequences)) (if holds a s then Some i else None)
one_more sequences i s d a within is =
    ap (position (holds a)) (take-suc sequences i d within ∙ ap (λ x. take i sequences ++ x ∷ []) (sym is))
    ∙ position-push (holds a) (take i sequences) s
    ∙ ap (λ n. option_or (position (holds a) (take i sequences)) (if holds a s then Some n else None)) (length-take-le i sequences (omega (arith, within)))

pub RangesSoFar-more : (sequences : List Sequence) (i : ℕ) (spans : List Span) (s d : Sequence) (row : Row) (rows : List Row) → RangesSoFar sequences i spans → i < length sequences → s ≡ get_or sequences i d → s.rows ≡ row ∷ rows
    → RangesSoFar sequences (suc i) (spans ++ record { lo = row.address; hi = s.end.address; owner = i } ∷ [])
RangesSoFar-more sequences i spans s d row rows so_far within is has = record {
  first = λ a.
      owner-append spans (record { lo = row.address; hi = s.end.address; owner = i } ∷ []) a
      ∙ ap (λ o. option_or o (owner_at (record { lo = row.address; hi = s.end.address; owner = i } ∷ []) a)) (so_far.first a)
      ∙ ap (option_or (position (holds a) (take i sequences))) (told a)
      ∙ sym (one_more sequences i s d a within is);
}
  where
    by_test : (b : Bool) → option_map (λ (span : Span). span.owner) (if b then Some (record { lo = row.address; hi = s.end.address; owner = i }) else None) ≡ (if b then Some i else None)
    by_test true = refl
    by_test false = refl

    told : (a : ℕ) → owner_at (record { lo = row.address; hi = s.end.address; owner = i } ∷ []) a ≡ (if holds a s then Some i else None)
    told a = by_test (nat_le row.address a && nat_lt a s.end.address) ∙ ap (λ b. if b then Some i else None) (sym (range-some (λ lo hi. nat_le lo a && nat_lt a hi) s row rows has))

pub RangesSoFar-none : (sequences : List Sequence) (i : ℕ) (spans : List Span) (s d : Sequence) → RangesSoFar sequences i spans → i < length sequences → s ≡ get_or sequences i d → s.rows ≡ []
    → RangesSoFar sequences (suc i) spans
RangesSoFar-none sequences i spans s d so_far within is none = record {
  first = λ a. so_far.first a ∙ or-none (position (holds a) (take i sequences)) ∙ ap (option_or (position (holds a) (take i sequences))) (unheld a) ∙ sym (one_more sequences i s d a within is);
}
  where
    or-none : (o : Option ℕ) → o ≡ option_or o None
    or-none None = refl
    or-none (Some n) = refl

    unheld : (a : ℕ) → ◌≡◌ {A = Option ℕ} None (if holds a s then Some i else None)
    unheld a = ap (λ b. if b then Some i else None) (sym (range-none (λ lo hi. nat_le lo a && nat_lt a hi) s none))

pub first_row : (rows : List Row) (row : Row) → Some row ≡ slice_get rows 0 → rows ≡ row ∷ drop 1 rows
first_row [] row is = absurd cc
first_row (first ∷ rows) row is = ap (λ r. r ∷ rows) (let e : first ≡ row = cc in e)

-- where no sequence holds an address
pub told-none : (sequences : List Sequence) (a : ℕ) → None ≡ position (holds a) sequences → told sequences a ≡ None
told-none sequences a is = ap (λ o. option_map data_of (option_and_then (row_in a) o)) (position-none (holds a) sequences is)

-- where the one at a place is the first
pub told-some : (sequences : List Sequence) (a k : ℕ) (s : Sequence) → Some k ≡ position (holds a) sequences → s ≡ get_or sequences k s → option_map data_of (row_in a s) ≡ told sequences a
told-some sequences a k s is at =
    let found = position-some (holds a) sequences k is in
    ap (λ o. option_map data_of (option_and_then (row_in a) o))
    (ap (λ x. Some x) at ∙ sym (slice_get-get_or sequences k s found.0) ∙ sym found.1)

rise_by : (file : List ℕ) (s : Sequence) (rest : List Sequence) (live : Bool) → is_live_sequence file s ≡ live → AllByRecursion IsRising rest → AllByRecursion IsRising (if live then s ∷ rest else rest)
rise_by file s rest true is all = (and_right (with_range (is_live file) s) (never_fall (addresses_of s)) is, all)
  where
    and_right : (a b : Bool) → (a && b) ≡ true → b ≡ true
    and_right true b both = both
    and_right false b both = absurd cc
rise_by file s rest false is all = all

rise : (file : List ℕ) (sequences : List Sequence) → AllByRecursion IsRising (filter (is_live_sequence file) sequences)
rise file [] = tt
rise file (s ∷ sequences) = rise_by file s (filter (is_live_sequence file) sequences) (is_live_sequence file s) refl (rise file sequences)

pub live_rise : (file : List ℕ) (rows : List Row) → AllByRecursion IsRising (live_sequences file rows)
live_rise file rows = rise file (sequences_of rows)
