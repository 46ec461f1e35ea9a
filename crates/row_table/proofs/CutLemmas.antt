-- The addresses of sequences, between which nothing changes.
use Rattle.std.proofs.Common.{◌≡◌, ℕ, ◌+◌, ◌<◌, ◌≤◌, Bool, true, false, List, [], ◌∷◌, ◌++◌, None, Some, refl, sym, ap, ◌∙◌, arith, map, reverse, length, cond, ◌⊎◌, inl, inr, eqb}
use Rattle.std.specs.Prelude.{◌&&◌, nat_le, nat_lt, find, Contains, if◌then◌else◌}
use Rattle.std.specs.Option.{option_or, option_map, option_and_then}
use Rattle.std.specs.List.{AllByRecursion, flat_map, dedup, dedup_from}
use Rattle.std.specs.List.Sorted.{IsSorted, IsPermutation}
use Rattle.std.specs.Ordering.{nat_cmp}
use Rattle.std.proofs.lemmas.Bool.Decides.{nat_tests}
use Rattle.std.proofs.lemmas.List.{reverse-append}
use Rattle.std.proofs.lemmas.List.Folds.{find-append}
use Rattle.std.proofs.lemmas.List.Elements.{Contains-append_left, Contains-append_right}
use Rattle.std.proofs.lemmas.List.Sorted.{Contains-permutation, length_permutation}
use Rattle.std.proofs.lemmas.List.Kept.{Contains-dedup_nat}
use Rattle.std.proofs.lemmas.Map.Keys.{IsStrictlyIncreasing-dedup}
use Rattle.line_model.specs.declared.row.Row.{Row}
use Rattle.line_model.specs.Rows.{Sequence, addresses_of, holds, row_in, row_among}
use Rattle.row_table.specs.Index.{HaveAddresses}
use Rattle.row_table.specs.Told.{AreCuts, NoneBetween, data_of, told}

first_in : (x : ℕ) (xs : List ℕ) → Contains (x ∷ xs) x
first_in x xs = (0, omega arith, refl)

all_in : (cuts xs : List ℕ) → ((a : ℕ) → Contains xs a → Contains cuts a) → AllByRecursion (Contains cuts) xs
all_in cuts [] within = tt
all_in cuts (x ∷ xs) within = (within x (first_in x xs), all_in cuts xs (λ a is. within a (Contains-append_right (x ∷ []) xs a is)))

all_of : (cuts : List ℕ) (sequences : List Sequence) → ((a : ℕ) → Contains (flat_map addresses_of sequences) a → Contains cuts a)
    → AllByRecursion (λ sequence. AllByRecursion (Contains cuts) (addresses_of sequence)) sequences
all_of cuts [] within = tt
all_of cuts (s ∷ sequences) within = (
  all_in cuts (addresses_of s) (λ a is. within a (Contains-append_left (addresses_of s) (flat_map addresses_of sequences) a is)),
  all_of cuts sequences (λ a is. within a (Contains-append_right (addresses_of s) (flat_map addresses_of sequences) a is)),
)

-- leaving out repeated ones makes a list no longer
shorter_from : (k : ℕ) (xs : List ℕ) → length (dedup_from eqb k xs) ≤ 1 + length xs
shorter_from k [] = omega arith
shorter_from k (x ∷ xs) = by_test (eqb x k) (shorter_from k xs) (shorter_from x xs)
  where
    by_test : (t : Bool) → length (dedup_from eqb k xs) ≤ 1 + length xs → length (dedup_from eqb x xs) ≤ 1 + length xs
        → length (cond t (dedup_from eqb k xs) (k ∷ dedup_from eqb x xs)) ≤ 1 + length (x ∷ xs)
    by_test true here later = omega (arith, here)
    by_test false here later = omega (arith, later)

shorter : (xs : List ℕ) → length (dedup eqb xs) ≤ length xs
shorter [] = omega arith
shorter (x ∷ xs) = omega (arith, shorter_from x xs)

-- sorted, and each once, they are all there
pub have_addresses : (sequences : List Sequence) (addresses sorted cuts : List ℕ) → addresses ≡ flat_map addresses_of sequences → IsPermutation addresses sorted → IsSorted nat_cmp sorted → cuts ≡ dedup eqb sorted
    → HaveAddresses sequences cuts
have_addresses sequences addresses sorted cuts are permuted in_order is = rw is (record {
  ascending = IsStrictlyIncreasing-dedup sorted in_order;
  all = all_of (dedup eqb sorted) sequences (λ a within. Contains-dedup_nat sorted a (Contains-permutation addresses sorted a permuted (rw are within)));
  few = omega (arith, shorter sorted, length_permutation addresses sorted permuted, ap (λ (l : List ℕ). length l) are);
})

-- the addresses of a sequence are its rows' and its end's
end_in : (cuts : List ℕ) (rows : List Row) (end : Row) → AllByRecursion (Contains cuts) (map (λ row. row.address) (rows ++ end ∷ [])) → Contains cuts end.address
end_in cuts [] end all = all.0
end_in cuts (row ∷ rows) end all = end_in cuts rows end all.1

-- a test that goes by addresses among the cuts is the same at two addresses without a cut between
same_test : (a b cut : ℕ) → a ≤ b → (cut ≤ a) ⊎ (b < cut) → (nat_le cut a ≡ nat_le cut b) × (nat_lt a cut ≡ nat_lt b cut)
same_test a b cut less (inl low) = grind (arith, nat_tests)
same_test a b cut less (inr high) = grind (arith, nat_tests)

same_row : (cuts : List ℕ) (a b : ℕ) (rows : List Row) (end : Row) → a ≤ b → NoneBetween a b cuts → AllByRecursion (Contains cuts) (map (λ row. row.address) (rows ++ end ∷ []))
    → find (λ row. nat_le row.address a) (reverse rows) ≡ find (λ row. nat_le row.address b) (reverse rows)
same_row cuts a b [] end less none all = refl
same_row cuts a b (row ∷ rows) end less none all =
    let test = (same_test a b row.address less (none row.address all.0)).0 in
    ap (find (λ row. nat_le row.address a)) (reverse-append (row ∷ []) rows)
    ∙ find-append (λ row. nat_le row.address a) (reverse rows) (row ∷ [])
    ∙ ap (λ o. option_or o (find (λ row. nat_le row.address a) (row ∷ []))) (same_row cuts a b rows end less none all.1)
    ∙ ap (λ t. option_or (find (λ row. nat_le row.address b) (reverse rows)) (if t then Some row else None)) test
    ∙ sym (find-append (λ row. nat_le row.address b) (reverse rows) (row ∷ []))
    ∙ sym (ap (find (λ row. nat_le row.address b)) (reverse-append (row ∷ []) rows))

same_holds : (cuts : List ℕ) (a b : ℕ) (rows : List Row) (end : Row) → a ≤ b → NoneBetween a b cuts → AllByRecursion (Contains cuts) (map (λ row. row.address) (rows ++ end ∷ []))
    → holds a (record { rows = rows; end = end }) ≡ holds b (record { rows = rows; end = end })
same_holds cuts a b [] end less none all = refl
same_holds cuts a b (row ∷ rows) end less none all =
    let first = (same_test a b row.address less (none row.address all.0)).0 in
    let last = (same_test a b end.address less (none end.address (end_in cuts rows end all.1))).1 in
    ap (λ t. t && nat_lt a end.address) first ∙ ap (λ t. nat_le row.address b && t) last

-- the first that holds, by a test of the first
by_test : (a b : ℕ) (s : Sequence) (sequences : List Sequence) (t : Bool) → row_in a s ≡ row_in b s → row_among sequences a ≡ row_among sequences b
    → option_and_then (row_in a) (if t then Some s else find (holds a) sequences) ≡ option_and_then (row_in b) (if t then Some s else find (holds b) sequences)
by_test a b s sequences true first later = first
by_test a b s sequences false first later = later

pub same_among : (cuts : List ℕ) (a b : ℕ) (sequences : List Sequence) → a ≤ b → NoneBetween a b cuts → AllByRecursion (λ sequence. AllByRecursion (Contains cuts) (addresses_of sequence)) sequences → row_among sequences a ≡ row_among sequences b
same_among cuts a b [] less none all = refl
same_among cuts a b (s ∷ sequences) less none all =
    ap (λ t. option_and_then (row_in a) (if t then Some s else find (holds a) sequences)) (same_holds cuts a b s.rows s.end less none all.0)
    ∙ by_test a b s sequences (holds b s) (same_row cuts a b s.rows s.end less none all.0) (same_among cuts a b sequences less none all.1)

none_holds : (a : ℕ) (sequences : List Sequence) → AllByRecursion (λ s. holds a s ≡ false) sequences → row_among sequences a ≡ None
none_holds a [] all = refl
none_holds a (s ∷ sequences) all = rw all.0 (none_holds a sequences all.1)

unheld_before : (cuts : List ℕ) (a : ℕ) (rows : List Row) (end : Row) → ((cut : ℕ) → Contains cuts cut → a < cut) → AllByRecursion (Contains cuts) (map (λ row. row.address) (rows ++ end ∷ []))
    → holds a (record { rows = rows; end = end }) ≡ false
unheld_before cuts a [] end before all = refl
unheld_before cuts a (row ∷ rows) end before all =
    let less = before row.address all.0 in
    let not_le : nat_le row.address a ≡ false = grind (arith, nat_tests) in
    rw not_le refl

unheld_behind : (cuts : List ℕ) (a : ℕ) (rows : List Row) (end : Row) → ((cut : ℕ) → Contains cuts cut → cut ≤ a) → AllByRecursion (Contains cuts) (map (λ row. row.address) (rows ++ end ∷ []))
    → holds a (record { rows = rows; end = end }) ≡ false
unheld_behind cuts a [] end behind all = refl
unheld_behind cuts a (row ∷ rows) end behind all =
    let past = behind end.address (end_in cuts rows end all.1) in
    let not_lt : nat_lt a end.address ≡ false = grind (arith, nat_tests) in
    ap (λ t. nat_le row.address a && t) not_lt ∙ and_false (nat_le row.address a)
  where
    and_false : (t : Bool) → (t && false) ≡ false
    and_false true = refl
    and_false false = refl

each : (cuts : List ℕ) (a : ℕ) (sequences : List Sequence) → ((rows : List Row) (end : Row) → AllByRecursion (Contains cuts) (map (λ row. row.address) (rows ++ end ∷ [])) → holds a (record { rows = rows; end = end }) ≡ false)
    → AllByRecursion (λ sequence. AllByRecursion (Contains cuts) (addresses_of sequence)) sequences → AllByRecursion (λ s. holds a s ≡ false) sequences
each cuts a [] unheld all = tt
each cuts a (s ∷ sequences) unheld all = (unheld s.rows s.end all.0, each cuts a sequences unheld all.1)

pub are_cuts : (sequences : List Sequence) (cuts : List ℕ) → HaveAddresses sequences cuts → AreCuts (told sequences) cuts
are_cuts sequences cuts have = record {
  ascending = have.ascending;
  same = λ a b less none. ap (option_map data_of) (same_among cuts a b sequences less none have.all);
  before = λ a before. ap (option_map data_of) (none_holds a sequences (each cuts a sequences (λ rows end all. unheld_before cuts a rows end before all) have.all));
  behind = λ a behind. ap (option_map data_of) (none_holds a sequences (each cuts a sequences (λ rows end all. unheld_behind cuts a rows end behind all) have.all));
}
