-- The ranges of a list, entry by entry.
use Rattle.std.proofs.Common.{◌≡◌, ℕ, zero, suc, ◌+◌, List, [], ◌∷◌, ◌++◌, take, length, Option, None, Some, Result, Ok, Err, refl, sym, ap, ◌∙◌, add-one}
use Rattle.std.specs.Prelude.{slice_get, unwrap_or}
use Rattle.std.specs.List.{filter_map, flat_map, last_or, range_with_len, cons_option}
use Rattle.std.specs.Option.{option_map_or}
use Rattle.std.specs.Result.{result_ok}
use Rattle.refusal.specs.declared.kind.Kind.{Kind}
use Rattle.range_model.specs.Entries.{Entry, sets_base, between, along, from_base}
use Rattle.range_model.specs.Lists.{Placed, Resolves, base_behind, or_else, ranges_of_entry}
use Rattle.reading_laws.specs.Ranges.{RangesAreByEntry, base_of, last_base, ranges_at}

-- the last of some, before which another stood
last-or : (o : Option ℕ) (base : ℕ) (xs : List ℕ) → unwrap_or (last_or o xs) base ≡ unwrap_or (last_or None xs) (unwrap_or o base)
last-or None base [] = refl
last-or (Some x) base [] = refl
last-or o base (x ∷ xs) = last-or (Some x) base xs ∙ sym (last-or (Some x) (unwrap_or o base) xs)

-- an entry first, as the base behind it
first-base : (resolve : Resolves) (base : ℕ) (entry : Entry) → unwrap_or (base_of resolve entry) base ≡ base_behind resolve base entry
first-base resolve base (sets_base value) = go (resolve value)
  where
    go : (answer : Result ℕ Kind) → unwrap_or (result_ok answer) base ≡ or_else base answer
    go (Ok address) = refl
    go (Err kind) = refl
first-base resolve base (between start end) = refl
first-base resolve base (along start size) = refl
first-base resolve base (from_base start end) = refl

last-first : (o : Option ℕ) (xs : List ℕ) → last_or None (cons_option o xs) ≡ last_or o xs
last-first None xs = refl
last-first (Some x) xs = refl

last_base-first : (resolve : Resolves) (base : ℕ) (placed : Placed) (entries : List Placed)
    → last_base resolve base (placed ∷ entries) ≡ last_base resolve (base_behind resolve base placed.entry) entries
last_base-first resolve base placed entries =
    let xs = filter_map (λ (p : Placed). base_of resolve p.entry) entries in
    let o = base_of resolve placed.entry in
    ap (λ (l : Option ℕ). unwrap_or l base) (last-first o xs)
    ∙ last-or o base xs
    ∙ ap (λ (b : ℕ). unwrap_or (last_or None xs) b) (first-base resolve base placed.entry)

-- what stands at an index behind the first entry
ranges_at-first : (resolve : Resolves) (base : ℕ) (placed : Placed) (entries : List Placed) (i : ℕ)
    → ranges_at resolve base (placed ∷ entries) (i + 1) ≡ ranges_at resolve (base_behind resolve base placed.entry) entries i
ranges_at-first resolve base placed entries i =
    ap (ranges_at resolve base (placed ∷ entries)) (add-one i)
    ∙ ap (λ (b : ℕ). option_map_or (λ (p : Placed). ranges_of_entry resolve b p.entry) (slice_get entries i) [])
    (last_base-first resolve base placed (take i entries))

flat-shifted : (f g : ℕ → List (ℕ × ℕ)) → ((i : ℕ) → f (i + 1) ≡ g i) → (a n : ℕ)
    → flat_map f (range_with_len (a + 1) n) ≡ flat_map g (range_with_len a n)
flat-shifted f g same a zero = refl
flat-shifted f g same a (suc n) = λ k. same a k ++ flat-shifted f g same (a + 1) n k

pub ranges-by_entry : RangesAreByEntry
ranges-by_entry resolve base [] = refl
ranges-by_entry resolve base (placed ∷ entries) =
    let next = base_behind resolve base placed.entry in
    ap (λ (rs : List (ℕ × ℕ)). ranges_of_entry resolve base placed.entry ++ rs) (
    ranges-by_entry resolve next entries
    ∙ sym (flat-shifted (ranges_at resolve base (placed ∷ entries)) (ranges_at resolve next entries) (ranges_at-first resolve base placed entries) 0 (length entries))
    )
