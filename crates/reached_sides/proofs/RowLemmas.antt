-- Sides in rows.
use Rattle.std.proofs.Common.{◌≡◌, ℕ, zero, suc, ◌+◌, ◌<◌, ◌≤◌, ◌^◌, List, [], ◌∷◌, ◌++◌, length, map, set, get_or, inl, inr, arith, subst, sym, ap, ◌∙◌, refl, append_assoc}
use Rattle.std.specs.List.{All}
use Rattle.std.specs.List.Sorted.{IsPermutation}
use Rattle.std.proofs.lemmas.Bool.{cases_eq}
use Rattle.std.proofs.lemmas.List.{map-append, get_or-set_same, get_or-set_other, get_or_default, nil_from_length}
use Rattle.std.proofs.lemmas.List.Sorted.{IsPermutation-refl, IsPermutation-middle, IsPermutation-sym}
use Rattle.std.proofs.lemmas.List.Elements.{All-append, All-map, All-nil}
use Rattle.reached_sides.proofs.NearnessLemmas.{pushed_behind, popped_behind}
use Rattle.reached_sides.specs.Nearness.{at_distance, rows_from, AreEmptyBelow, HaveDistances}

pushed_first : (here side : ℕ) (row new : List ℕ) (rest : List (ℕ × ℕ)) → new ≡ row ++ side ∷ []
    → IsPermutation ((here, side) ∷ (map (at_distance here) row ++ rest)) (map (at_distance here) new ++ rest)
pushed_first here side row new rest more =
    let front = map (at_distance here) row in
    let is : map (at_distance here) new ++ rest ≡ front ++ (here, side) ∷ rest =
    ap (λ (items : List ℕ). map (at_distance here) items ++ rest) more
    ∙ ap (λ (list : List (ℕ × ℕ)). list ++ rest) (map-append (at_distance here) row (side ∷ []))
    ∙ append_assoc front ((here, side) ∷ []) rest in
    subst (λ (list : List (ℕ × ℕ)). IsPermutation ((here, side) ∷ (front ++ rest)) list) (sym is)
    (IsPermutation-sym (front ++ (here, side) ∷ rest) ((here, side) ∷ (front ++ rest)) (IsPermutation-middle front (here, side) rest))

-- A side more in a row.
pub pushed_row : (here distance k side : ℕ) (rows : List (List ℕ)) (old new : List ℕ) → k < length rows
    → here + k ≡ distance → old ≡ get_or rows k old → new ≡ old ++ side ∷ []
    → IsPermutation ((distance, side) ∷ rows_from here rows) (rows_from here (set rows k new))
pushed_row here distance k side [] old new within is first more = absurd (omega (arith, within))
pushed_row here distance zero side (row ∷ rows) old new within is first more =
    let same : here ≡ distance = omega (arith, is) in
    subst (λ (d : ℕ). IsPermutation ((d, side) ∷ rows_from here (row ∷ rows)) (rows_from here (new ∷ rows))) same
    (pushed_first here side row new (rows_from (here + 1) rows) (more ∙ ap (λ (r : List ℕ). r ++ side ∷ []) first))
pushed_row here distance (suc k) side (row ∷ rows) old new within is first more =
    pushed_behind (map (at_distance here) row) (rows_from (here + 1) rows) (rows_from (here + 1) (set rows k new)) (distance, side)
    (pushed_row (here + 1) distance k side rows old new (omega (arith, within)) (omega (arith, is)) first more)

-- The first side of a row less.
pub popped_row : (here distance k side : ℕ) (rows : List (List ℕ)) (old new : List ℕ) → k < length rows
    → here + k ≡ distance → old ≡ get_or rows k old → old ≡ side ∷ new
    → IsPermutation (rows_from here rows) ((distance, side) ∷ rows_from here (set rows k new))
popped_row here distance k side [] old new within is first more = absurd (omega (arith, within))
popped_row here distance zero side (row ∷ rows) old new within is first more =
    let same : here ≡ distance = omega (arith, is) in
    let rest = rows_from (here + 1) rows in
    let whole : row ≡ side ∷ new = sym first ∙ more in
    subst (λ (d : ℕ). IsPermutation (map (at_distance here) row ++ rest) ((d, side) ∷ (map (at_distance here) new ++ rest))) same
    (subst (λ (list : List ℕ). IsPermutation (map (at_distance here) list ++ rest) ((here, side) ∷ (map (at_distance here) new ++ rest))) (sym whole)
    (IsPermutation-refl ((here, side) ∷ (map (at_distance here) new ++ rest))))
popped_row here distance (suc k) side (row ∷ rows) old new within is first more =
    popped_behind (map (at_distance here) row) (rows_from (here + 1) rows) (rows_from (here + 1) (set rows k new)) (distance, side)
    (popped_row (here + 1) distance k side rows old new (omega (arith, within)) (omega (arith, is)) first more)

-- A row that is as it was.
pub kept_row : (k : ℕ) (rows : List (List ℕ)) (old new : List ℕ) → old ≡ get_or rows k old → new ≡ old → set rows k new ≡ rows
kept_row k [] old new first same = refl
kept_row zero (row ∷ rows) old new first same = ap (λ (r : List ℕ). r ∷ rows) (same ∙ first)
kept_row (suc k) (row ∷ rows) old new first same = ap (λ (lists : List (List ℕ)). row ∷ lists) (kept_row k rows old new first same)

-- ---- which rows have sides

-- No side is nearer than the first row that may have sides.
pub none_nearer : (least here k : ℕ) (rows : List (List ℕ)) → least ≤ here + k → AreEmptyBelow k rows
    → All (λ (other : ℕ × ℕ). least ≤ other.0) (rows_from here rows)
none_nearer least here k [] ahead empty = All-nil (λ (other : ℕ × ℕ). least ≤ other.0)
none_nearer least here zero (row ∷ rows) ahead empty =
    All-append (λ (other : ℕ × ℕ). least ≤ other.0) (map (at_distance here) row) (rows_from (here + 1) rows)
    (All-map (λ (other : ℕ × ℕ). least ≤ other.0) (at_distance here) row (λ j d within. omega (arith, ahead)))
    (none_nearer least (here + 1) zero rows (omega (arith, ahead)) (λ j below. absurd (omega (arith, below))))
none_nearer least here (suc k) (row ∷ rows) ahead empty =
    let none : row ≡ [] = empty 0 (omega arith) in
    rw none (none_nearer least (here + 1) k rows (omega (arith, ahead)) (λ j below. empty (suc j) (omega (arith, below))))

-- Rows that are all empty have no sides.
pub no_sides : (here n : ℕ) (rows : List (List ℕ)) → length rows ≤ n → AreEmptyBelow n rows → rows_from here rows ≡ []
no_sides here n [] all empty = refl
no_sides here zero (row ∷ rows) all empty = absurd (omega (arith, all))
no_sides here (suc n) (row ∷ rows) all empty =
    let none : row ≡ [] = empty 0 (omega arith) in
    rw none (no_sides (here + 1) n rows (omega (arith, all)) (λ j below. empty (suc j) (omega (arith, below))))

-- What is true of the rows of which only one is another.
pub empty_kept : (low place k : ℕ) (rows : List (List ℕ)) (new : List ℕ) → place ≤ low → place ≤ k
    → AreEmptyBelow low rows → AreEmptyBelow place (set rows k new)
empty_kept low place k rows new within before empty j below =
    get_or-set_other rows k j new [] (λ same. omega (arith, same, below, before)) ∙ empty j (omega (arith, below, within))

pub emptied : (k : ℕ) (rows : List (List ℕ)) (new : List ℕ) → k < length rows → new ≡ []
    → AreEmptyBelow k rows → AreEmptyBelow (k + 1) (set rows k new)
emptied k rows new within none empty j below =
    elim (cases_eq j k) [
      | inl same ↦ rw same (get_or-set_same rows k new [] within ∙ none)
      | inr other ↦ empty_kept k k k rows new (omega arith) (omega arith) empty j (omega (arith, below, other))
    ]

pub empty_more : (k : ℕ) (rows : List (List ℕ)) (row : List ℕ) → k < length rows → row ≡ get_or rows k row → length row ≡ 0
    → AreEmptyBelow k rows → AreEmptyBelow (k + 1) rows
empty_more k rows row within is none empty j below =
    elim (cases_eq j k) [
      | inl same ↦ rw same (get_or_default rows k [] row within ∙ sym is ∙ nil_from_length row none)
      | inr other ↦ empty j (omega (arith, below, other))
    ]

pub distances_kept : (here k : ℕ) (rows : List (List ℕ)) (new : List ℕ) → here + k < 2 ^ 64
    → HaveDistances here rows → HaveDistances here (set rows k new)
distances_kept here k rows new fits old j some =
    elim (cases_eq j k) [
      | inl same ↦ omega (arith, same, fits)
      | inr other ↦ old j (subst (λ (list : List ℕ). 0 < length list) (get_or-set_other rows k j new [] other) some)
    ]
