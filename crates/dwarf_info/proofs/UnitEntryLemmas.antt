-- The entries of a unit among those of all.
use Rattle.std.proofs.Common.{◌≡◌, ℕ, zero, suc, ◌-◌, List, [], ◌∷◌, length, map, take, drop, refl, sym, ap, ◌∙◌, inl, inr, arith}
use Rattle.std.specs.Prelude.{min}
use Rattle.std.proofs.Math.Nat.{min-eq_left, min-eq_right}
use Rattle.std.proofs.lemmas.Bool.{cases_lt}
use Rattle.std.proofs.lemmas.List.{drop_all, length-drop, take_all}
use Rattle.unit_model.specs.Values.{Found}
use Rattle.dwarf_info.specs.declared.rows.EntryRow.{EntryRow}
use Rattle.dwarf_info.specs.Rows.{AreWithin, entries_of, entry_of_row}

map-drop : {X Y : Type 0} (f : X → Y) (n : ℕ) (xs : List X) → map f (drop n xs) ≡ drop n (map f xs)
map-drop f zero xs = refl
map-drop f (suc n) [] = refl
map-drop f (suc n) (x ∷ xs) = map-drop f n xs

map-take : {X Y : Type 0} (f : X → Y) (n : ℕ) (xs : List X) → map f (take n xs) ≡ take n (map f xs)
map-take f zero xs = refl
map-take f (suc n) [] = refl
map-take f (suc n) (x ∷ xs) = ap (λ ys. f x ∷ ys) (map-take f n xs)

within-drop : (found : List Found) (n : ℕ) (rows : List EntryRow) → AreWithin found rows → AreWithin found (drop n rows)
within-drop found zero rows w = w
within-drop found (suc n) [] w = tt
within-drop found (suc n) (row ∷ rows) w = within-drop found n rows w.1

within-take : (found : List Found) (n : ℕ) (rows : List EntryRow) → AreWithin found rows → AreWithin found (take n rows)
within-take found zero rows w = tt
within-take found (suc n) [] w = tt
within-take found (suc n) (row ∷ rows) w = (w.0, within-take found n rows w.1)

-- some rows of a list have their attributes where the others have them
pub AreWithin-part : (found : List Found) (first count : ℕ) (rows : List EntryRow) → AreWithin found rows → AreWithin found (take count (drop first rows))
AreWithin-part found first count rows w = within-take found count (drop first rows) (within-drop found first rows w)

drop-least : {X : Type 0} (m n : ℕ) (xs : List X) → m ≡ min (length xs) n → drop m xs ≡ drop n xs
drop-least {X} m n xs least = elim (cases_lt n (length xs)) [
  | inl within ↦ ap (λ k. drop {A = X} k xs) (least ∙ min-eq_right (omega (arith, within)))
  | inr past ↦
      let all : m ≡ length xs = least ∙ min-eq_left (omega (arith, past)) in
      drop_all m xs (omega (arith, all)) ∙ sym (drop_all n xs (omega (arith, past)))
]

take-least : {X : Type 0} (m n : ℕ) (xs : List X) → m ≡ min (length xs) n → take m xs ≡ take n xs
take-least {X} m n xs least = elim (cases_lt n (length xs)) [
  | inl within ↦ ap (λ k. take {A = X} k xs) (least ∙ min-eq_right (omega (arith, within)))
  | inr past ↦
      let all : m ≡ length xs = least ∙ min-eq_left (omega (arith, past)) in
      take_all m xs (omega (arith, all)) ∙ sym (take_all n xs (omega (arith, past)))
]

entries_of-part : (found : List Found) (first count : ℕ) (rows : List EntryRow) → entries_of found (take count (drop first rows)) ≡ take count (drop first (entries_of found rows))
entries_of-part found first count rows =
    map-take (entry_of_row found) count (drop first rows) ∙ ap (λ es. take count es) (map-drop (entry_of_row found) first rows)

-- as many of the rows as a unit has, from its first one on
pub entries_of-unit : (found : List Found) (rows : List EntryRow) (first count from most : ℕ) → from ≡ min (length rows) first
    → most ≡ min (length (take (length rows - from) (drop from rows))) count
    → entries_of found (take most (take (length rows - from) (drop from rows))) ≡ take count (drop first (entries_of found rows))
entries_of-unit found rows first count from most is_from is_most =
    let behind : take (length rows - from) (drop from rows) ≡ drop first rows =
    take_all (length rows - from) (drop from rows) (omega (arith, length-drop from rows)) ∙ drop-least from first rows is_from in
    ap (λ rs. entries_of found rs) (take-least most count (take (length rows - from) (drop from rows)) is_most ∙ ap (λ (rs : List EntryRow). take count rs) behind)
    ∙ entries_of-part found first count rows
