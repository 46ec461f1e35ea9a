-- The sequences of rows, one row after another, and the rows of a sequence.
use Rattle.std.proofs.Common.{◌≡◌, ℕ, zero, suc, ◌+◌, ◌≤◌, Bool, true, false, List, [], ◌∷◌, ◌++◌, length, refl, sym, ap, subst, ◌∙◌, arith, append_assoc, append-nil, length-append, map, filter, drop}
use Rattle.std.specs.Prelude.{All, if◌then◌else◌}
use Rattle.std.specs.List.{AllByRecursion, flat_map, slice_split, zip}
use Rattle.std.proofs.lemmas.List.{length-map}
use Rattle.std.proofs.lemmas.List.Elements.{filter-append}
use Rattle.std.proofs.lemmas.List.Splits.{slice_split_at, slice_split_none}
use Rattle.line_model.specs.declared.row.Row.{Row}
use Rattle.line_model.specs.Rows.{Sequence, addresses_of, ends, sequences_of, is_live_sequence, live_sequences}
use Rattle.row_table.specs.Told.{row_count}

-- rows that end no sequence
abbrev pub AreBegun : List Row → Type 0
AreBegun rows = AllByRecursion (λ row. row.ends ≡ false) rows

all_begun : (rows : List Row) → AreBegun rows → All (λ row. ends row ≡ false) rows
all_begun [] begun k d within = absurd (omega (arith, within))
all_begun (row ∷ rows) begun zero d within = begun.0
all_begun (row ∷ rows) begun (suc k) d within = all_begun rows begun.1 k d (omega (arith, within))

no_ends : (rows : List Row) → AreBegun rows → filter ends rows ≡ []
no_ends [] begun = refl
no_ends (row ∷ rows) begun = rw begun.0 (no_ends rows begun.1)

pub AreBegun-more : (rows : List Row) (row : Row) → AreBegun rows → row.ends ≡ false → AreBegun (rows ++ row ∷ [])
AreBegun-more [] row begun more = (more, tt)
AreBegun-more (first ∷ rows) row begun more = (begun.0, AreBegun-more rows row begun.1 more)

sequence : List Row × Row → Sequence
sequence p = record { rows = p.0; end = p.1 }

-- rows that end none, the row that ends them, and what stands behind
pub sequences_of-ended : (begun : List Row) (end : Row) (rest : List Row) → AreBegun begun → end.ends ≡ true → sequences_of (begun ++ end ∷ rest) ≡ record { rows = begun; end = end } ∷ sequences_of rest
sequences_of-ended begun end rest are_begun is_end =
    let parts : slice_split ends (begun ++ end ∷ rest) ≡ begun ∷ slice_split ends rest = slice_split_at ends begun end rest (all_begun begun are_begun) is_end in
    let found : filter ends (begun ++ end ∷ rest) ≡ end ∷ filter ends rest =
    filter-append ends begun (end ∷ rest) ∙ ap (λ rows. rows ++ filter ends (end ∷ rest)) (no_ends begun are_begun) ∙ rw is_end refl
    in
    ap (λ (ps : List (List Row)). map (λ p. record { rows = p.0; end = p.1 }) (zip ps (filter ends (begun ++ end ∷ rest)))) parts
    ∙ ap (λ (es : List Row). map (λ p. record { rows = p.0; end = p.1 }) (zip (begun ∷ slice_split ends rest) es)) found

pub sequences_of-begun : (begun : List Row) → AreBegun begun → sequences_of begun ≡ []
sequences_of-begun begun are_begun =
    ap (λ (ps : List (List Row)). map (λ p. record { rows = p.0; end = p.1 }) (zip ps (filter ends begun))) (slice_split_none ends begun (all_begun begun are_begun))
    ∙ ap (λ (es : List Row). map (λ p. record { rows = p.0; end = p.1 }) (zip (begun ∷ []) es)) (no_ends begun are_begun)

-- how far the rows were taken: those that were are live sequences, or are begun
pub record LiveSoFar (file : List ℕ) (rows : List Row) (i : ℕ) (sequences : List Sequence) (begun : List Row) : Type 0 where
  pub are_begun : AreBegun begun
  pub so_far : sequences ++ live_sequences file (begun ++ drop i rows) ≡ live_sequences file rows

pub LiveSoFar-ended : (file : List ℕ) (rows : List Row) (i : ℕ) (before after : List Sequence) (begun : List Row) (end : Row) → LiveSoFar file rows i before begun → drop i rows ≡ end ∷ drop (suc i) rows → end.ends ≡ true
    → after ≡ before ++ filter (is_live_sequence file) (record { rows = begun; end = end } ∷ []) → LiveSoFar file rows (suc i) after []
LiveSoFar-ended file rows i before after begun end so_far next is_end pushed = record {
  are_begun = tt;
  so_far =
      ap (λ (ss : List Sequence). ss ++ live_sequences file (drop (suc i) rows)) pushed
      ∙ append_assoc before (filter (is_live_sequence file) (record { rows = begun; end = end } ∷ [])) (live_sequences file (drop (suc i) rows))
      ∙ ap (λ (ss : List Sequence). before ++ ss) (sym (filter-append (is_live_sequence file) (record { rows = begun; end = end } ∷ []) (sequences_of (drop (suc i) rows))))
      ∙ ap (λ (ss : List Sequence). before ++ filter (is_live_sequence file) ss) (sym (sequences_of-ended begun end (drop (suc i) rows) so_far.are_begun is_end))
      ∙ ap (λ (rs : List Row). before ++ live_sequences file (begun ++ rs)) (sym next)
      ∙ so_far.so_far;
}

pub LiveSoFar-more : (file : List ℕ) (rows : List Row) (i : ℕ) (sequences : List Sequence) (begun : List Row) (row : Row) → LiveSoFar file rows i sequences begun → drop i rows ≡ row ∷ drop (suc i) rows → row.ends ≡ false
    → LiveSoFar file rows (suc i) sequences (begun ++ row ∷ [])
LiveSoFar-more file rows i sequences begun row so_far next no_end = record {
  are_begun = AreBegun-more begun row so_far.are_begun no_end;
  so_far =
      ap (λ (rs : List Row). sequences ++ live_sequences file rs) (append_assoc begun (row ∷ []) (drop (suc i) rows) ∙ ap (λ (rs : List Row). begun ++ rs) (sym next))
      ∙ so_far.so_far;
}

pub LiveSoFar-all : (file : List ℕ) (rows : List Row) (i : ℕ) (sequences : List Sequence) (begun : List Row) → LiveSoFar file rows i sequences begun → drop i rows ≡ [] → sequences ≡ live_sequences file rows
LiveSoFar-all file rows i sequences begun so_far none =
    sym (append-nil sequences)
    ∙ ap (λ (ss : List Sequence). sequences ++ filter (is_live_sequence file) ss) (sym (sequences_of-begun begun so_far.are_begun))
    ∙ ap (λ (rs : List Row). sequences ++ live_sequences file rs) (sym (append-nil begun) ∙ ap (λ (rs : List Row). begun ++ rs) (sym none))
    ∙ so_far.so_far

-- No more rows stand in the sequences than there are: each sequence has some of them.
rows_behind : (begun rest : List Row) → AreBegun begun → row_count (sequences_of (begun ++ rest)) ≤ length begun + length rest
rows_behind begun [] are_begun =
    subst (λ (rows : List Row). row_count (sequences_of rows) ≤ length begun + 0) (sym (append-nil begun))
    (subst (λ (ss : List Sequence). row_count ss ≤ length begun + 0) (sym (sequences_of-begun begun are_begun)) (omega arith))
rows_behind begun (row ∷ rest) are_begun =
    by_end row.ends refl (rows_behind [] rest tt) (λ is. rows_behind (begun ++ row ∷ []) rest (AreBegun-more begun row are_begun is))
  where
    by_end : (b : Bool) → row.ends ≡ b → row_count (sequences_of rest) ≤ 0 + length rest
        → (row.ends ≡ false → row_count (sequences_of ((begun ++ row ∷ []) ++ rest)) ≤ length (begun ++ row ∷ []) + length rest)
        → row_count (sequences_of (begun ++ row ∷ rest)) ≤ length begun + length (row ∷ rest)
    by_end true is behind more =
        let one : Sequence = record { rows = begun; end = row } in
        subst (λ (ss : List Sequence). row_count ss ≤ length begun + length (row ∷ rest)) (sym (sequences_of-ended begun row rest are_begun is))
        (omega (
          arith,
          behind,
          length-append (addresses_of one) (flat_map addresses_of (sequences_of rest)),
          length-map (begun ++ row ∷ []) (λ (r : Row). r.address),
          length-append begun (row ∷ []),
        ))
    by_end false is behind more =
        subst (λ (rows : List Row). row_count (sequences_of rows) ≤ length begun + length (row ∷ rest)) (append_assoc begun (row ∷ []) rest)
        (omega (arith, more is, length-append begun (row ∷ [])))

-- and of them only the live ones are kept
fewer : (p : Sequence → Bool) (sequences : List Sequence) → row_count (filter p sequences) ≤ row_count sequences
fewer p [] = omega arith
fewer p (s ∷ sequences) = by_test (p s) (fewer p sequences)
  where
    by_test : (t : Bool) → row_count (filter p sequences) ≤ row_count sequences
        → row_count (if t then s ∷ filter p sequences else filter p sequences) ≤ row_count (s ∷ sequences)
    by_test true less =
        omega (arith, less, length-append (addresses_of s) (flat_map addresses_of (filter p sequences)), length-append (addresses_of s) (flat_map addresses_of sequences))
    by_test false less = omega (arith, less, length-append (addresses_of s) (flat_map addresses_of sequences))

pub few_rows : (file : List ℕ) (rows : List Row) → row_count (live_sequences file rows) ≤ length rows
few_rows file rows = omega (arith, fewer (is_live_sequence file) (sequences_of rows), rows_behind [] rows tt)
