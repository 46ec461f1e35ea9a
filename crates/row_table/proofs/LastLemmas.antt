-- The last row whose address is not above an address.
use Rattle.std.proofs.Common.{◌≡◌, ℕ, zero, suc, ◌+◌, ◌<◌, ◌≤◌, Bool, true, false, List, [], ◌∷◌, ◌++◌, None, Some, refl, sym, ap, ◌∙◌, arith, length, take, drop, get_or, reverse, leb, map, length-drop}
use Rattle.std.specs.Prelude.{◌&&◌, nat_le, find}
use Rattle.std.specs.Option.{option_or}
use Rattle.std.specs.List.Sorted.{IsNonDecreasingBy, IsPartitionPoint}
use Rattle.std.proofs.Math.Seq.{take-suc}
use Rattle.std.proofs.lemmas.Bool.Decides.{nat_tests}
use Rattle.std.proofs.lemmas.List.{reverse-append, take-append-drop, get_or-drop, map-append}
use Rattle.std.proofs.lemmas.List.Folds.{find-append}
use Rattle.line_model.specs.declared.row.Row.{Row}
use Rattle.line_model.specs.Rows.{Sequence, never_fall}
use Rattle.row_table.specs.Index.{IsRising}

-- the addresses of a rising sequence, one not below the other
step : (a b : ℕ) (rest : List ℕ) → never_fall (a ∷ b ∷ rest) ≡ true → (a ≤ b) × (never_fall (b ∷ rest) ≡ true)
step a b rest rises = by_test (nat_le a b) refl rises
  where
    by_test : (t : Bool) → nat_le a b ≡ t → (t && never_fall (b ∷ rest)) ≡ true → (a ≤ b) × (never_fall (b ∷ rest) ≡ true)
    by_test true is both = (grind (arith, nat_tests), both)
    by_test false is both = absurd cc

above : (a : ℕ) (rows : List Row) (end : ℕ) → never_fall (a ∷ map (λ row. row.address) rows ++ end ∷ []) ≡ true → (j : ℕ) (d : Row) → j < length rows → a ≤ (get_or rows j d).address
above a [] end rises j d within = absurd (omega (arith, within))
above a (row ∷ rows) end rises zero d within = (step a row.address (map (λ row. row.address) rows ++ end ∷ []) rises).0
above a (row ∷ rows) end rises (suc j) d within =
    let first = step a row.address (map (λ row. row.address) rows ++ end ∷ []) rises in
    omega (arith, first.0, above row.address rows end first.1 j d (omega (arith, within)))

tail_rises : (a : ℕ) (rest : List ℕ) → never_fall (a ∷ rest) ≡ true → never_fall rest ≡ true
tail_rises a [] rises = refl
tail_rises a (b ∷ rest) rises = (step a b rest rises).1

rows_rise : (rows : List Row) (end : ℕ) → never_fall (map (λ row. row.address) rows ++ end ∷ []) ≡ true → IsNonDecreasingBy (λ row. row.address) rows
rows_rise [] end rises i j d before within = absurd (omega (arith, within))
rows_rise (row ∷ rows) end rises zero zero d before within = omega arith
rows_rise (row ∷ rows) end rises zero (suc j) d before within = above row.address rows end rises j d (omega (arith, within))
rows_rise (row ∷ rows) end rises (suc i) zero d before within = absurd (omega (arith, before))
rows_rise (row ∷ rows) end rises (suc i) (suc j) d before within =
    rows_rise rows end (tail_rises row.address (map (λ row. row.address) rows ++ end ∷ []) rises) i j d (omega (arith, before)) (omega (arith, within))

pub rising_rows : (s : Sequence) → IsRising s → IsNonDecreasingBy (λ row. row.address) s.rows
rising_rows s rises = rows_rise s.rows s.end.address (sym (ap never_fall (map-append (λ row. row.address) s.rows (s.end ∷ []))) ∙ rises)

-- from a place on no row passes, so none of these is found from the back
none_behind : (a : ℕ) (rows : List Row) → ((k : ℕ) (d : Row) → k < length rows → nat_le (get_or rows k d).address a ≡ false) → find (λ row. nat_le row.address a) (reverse rows) ≡ None
none_behind a [] fails = refl
none_behind a (row ∷ rows) fails =
    ap (find (λ row. nat_le row.address a)) (reverse-append (row ∷ []) rows)
    ∙ find-append (λ row. nat_le row.address a) (reverse rows) (row ∷ [])
    ∙ ap (λ o. option_or o (find (λ row. nat_le row.address a) (row ∷ []))) (none_behind a rows (λ k d within. fails (suc k) d (omega (arith, within))))
    ∙ rw (fails 0 row (omega arith)) refl

pub last-none : (a : ℕ) (rows : List Row) → IsPartitionPoint (λ row. leb row.address a ≡ true) (λ row. leb row.address a ≡ false) rows 0 → find (λ row. nat_le row.address a) (reverse rows) ≡ None
last-none a rows point = none_behind a rows (λ k d within. point.1 k d (omega arith) within)

pub last-some : (a i : ℕ) (rows : List Row) (row : Row) → i < length rows → row ≡ get_or rows i row → IsPartitionPoint (λ row. leb row.address a ≡ true) (λ row. leb row.address a ≡ false) rows (suc i)
    → find (λ row. nat_le row.address a) (reverse rows) ≡ Some row
last-some a i rows row within is point =
    ap (λ rs. find (λ row. nat_le row.address a) (reverse rs)) (sym (take-append-drop (suc i) rows))
    ∙ ap (find (λ row. nat_le row.address a)) (reverse-append (take (suc i) rows) (drop (suc i) rows))
    ∙ find-append (λ row. nat_le row.address a) (reverse (drop (suc i) rows)) (reverse (take (suc i) rows))
    ∙ ap (λ o. option_or o (find (λ row. nat_le row.address a) (reverse (take (suc i) rows)))) (none_behind a (drop (suc i) rows) later)
    ∙ ap (λ rs. find (λ row. nat_le row.address a) (reverse rs)) (take-suc rows i row within ∙ ap (λ r. take i rows ++ r ∷ []) (sym is))
    ∙ ap (find (λ row. nat_le row.address a)) (reverse-append (take i rows) (row ∷ []))
    ∙ rw (let e : nat_le row.address a ≡ true = ap (λ r. nat_le r.address a) is ∙ point.0 i row (omega arith) (omega arith) in e) refl
  where
    later : (k : ℕ) (d : Row) → k < length (drop (suc i) rows) → nat_le (get_or (drop (suc i) rows) k d).address a ≡ false
    later k d inside =
        ap (λ r. nat_le r.address a) (get_or-drop (suc i) rows k d)
        ∙ point.1 (suc i + k) d (omega arith) (omega (arith, inside, length-drop (suc i) rows))
