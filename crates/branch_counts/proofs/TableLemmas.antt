-- What a written row and a new row do to a table.
use Rattle.std.proofs.Common.{◌≡◌, ℕ, zero, suc, ◌+◌, ◌*◌, ◌<◌, ◌≤◌, ◌==◌, ◌&&◌, ◌||◌, Bool, true, false, cond, List, [], ◌∷◌, ◌++◌, length, map, get_or, set, take, drop, replicate, Some, refl, sym, ap, subst, ◌∙◌, arith}
use Rattle.std.specs.Prelude.{count_by, slice_get, not, if◌then◌else◌}
use Rattle.std.specs.List.{AllByRecursion, list_any, zip}
use Rattle.std.proofs.lemmas.Bool.Decides.{nat_tests}
use Rattle.std.proofs.lemmas.List.{append-nil, append_assoc, get_or-map, map_push, length-append, length-map, length-replicate}
use Rattle.std.proofs.lemmas.Slice.Zip.{length-zip}
use Rattle.std.proofs.lemmas.List.Sums.{sum_by-append, sum_by-set, sum_by-cons, sum_by_push}
use Rattle.std.proofs.lemmas.List.Folds.{sum_by-replicate}
use Rattle.std.proofs.lemmas.Option.{slice_get_within, get_or_from_slice_get}
use Rattle.indexmap.specs.IndexSet.{insert_key}
use Rattle.std.proofs.Math.Seq.{map-set_same}
use Rattle.sample_model.specs.Pairs.{same_pair, times_of}
use Rattle.sample_model.proofs.PairLemmas.{same_pair-equal}
use Rattle.sample_model.specs.Samples.{ranges_between, range_between}
use Rattle.sample_model.specs.declared.pair.Pair.{Pair}
use Rattle.branch_counts.specs.Table.{pair_of, times_of_row, times_in, total_in, AllDistinct, IsTable, AddsPairs, Tallies}
use Rattle.branch_counts.specs.Tally.{Tally, IsCounted, counted as counted_of}
use Rattle.sample_model.specs.Limits.{max_branches}

-- one for an element that passes
abbrev counted : {X : Type 0} → (X → Bool) → X → ℕ
counted test x = cond (test x) 1 0

count_by-replicate : {X : Type 0} (test : X → Bool) (x : X) (n : ℕ) → count_by test (replicate n x) ≡ cond (test x) n 0
count_by-replicate test x n =
    sum_by-replicate (counted test) n x ∙ elim (test x) as (λ b. ◌≡◌ {A = ℕ} (n * cond b 1 0) (cond b n 0)) [ true ↦ omega arith | false ↦ omega arith ]

-- a row with more times tells of the same pair, more often
times_of_row-more : (p : ℕ × ℕ) (row : Pair) (n : ℕ) → times_of_row p (record row { times = row.times + n }) ≡ times_of_row p row + cond (same_pair p (pair_of row)) n 0
times_of_row-more p row n = elim (same_pair p (pair_of row)) as (λ b. cond b (row.times + n) 0 ≡ cond b row.times 0 + cond b n 0) [ true ↦ refl | false ↦ refl ]

-- all stays positive where one row grows
positive-set : (rows : List Pair) (i : ℕ) (new : Pair) → 0 < new.times → AllByRecursion (λ row. 0 < row.times) rows → AllByRecursion (λ row. 0 < row.times) (set rows i new)
positive-set [] i new more all = all
positive-set (row ∷ rows) zero new more all = (more, all.1)
positive-set (row ∷ rows) (suc i) new more all = (all.0, positive-set rows i new more all.1)

positive-push : (rows : List Pair) (new : Pair) → 0 < new.times → AllByRecursion (λ row. 0 < row.times) rows → AllByRecursion (λ row. 0 < row.times) (rows ++ new ∷ [])
positive-push [] new more all = (more, tt)
positive-push (row ∷ rows) new more all = (all.0, positive-push rows new more all.1)

same_pair-other : (p q : ℕ × ℕ) → same_pair p q ≡ false → same_pair q p ≡ false
same_pair-other p q is = grind (arith, nat_tests)

-- what a row that grew adds
times_in-set : (rows : List Pair) (i n : ℕ) (row : Pair) → i < length rows → row ≡ get_or rows i row → (p : ℕ × ℕ)
    → times_in (set rows i (record row { times = row.times + n })) p ≡ times_in rows p + times_of p (replicate n (pair_of row))
times_in-set rows i n row within is p =
    let grown = sum_by-set (times_of_row p) rows i (record row { times = row.times + n }) row within in
    let old : times_of_row p (get_or rows i row) ≡ times_of_row p row = ap (times_of_row p) (sym is) in
    omega (arith, grown, old, times_of_row-more p row n, count_by-replicate (same_pair p) (pair_of row) n)

total_in-set : (rows : List Pair) (i n : ℕ) (row : Pair) → i < length rows → row ≡ get_or rows i row
    → total_in (set rows i (record row { times = row.times + n })) ≡ total_in rows + n
total_in-set rows i n row within is =
    let old : (get_or rows i row).times ≡ row.times = ap (λ (r : Pair). r.times) (sym is) in
    omega (arith, sum_by-set (λ (r : Pair). r.times) rows i (record row { times = row.times + n }) row within, old)

AddsPairs-row : (rows : List Pair) (i n : ℕ) (row : Pair) → i < length rows → row ≡ get_or rows i row → 0 < n
    → AddsPairs rows (set rows i (record row { times = row.times + n })) (replicate n (pair_of row))
AddsPairs-row rows i n row within is more = record {
  table = λ old. record {
    distinct = subst AllDistinct (sym (map-set_same pair_of rows i (record row { times = row.times + n }) row (ap pair_of is))) old.distinct;
    positive = positive-set rows i (record row { times = row.times + n }) (omega arith) old.positive;
  };
  times = times_in-set rows i n row within is;
  total = total_in-set rows i n row within is ∙ ap (λ k. total_in rows + k) (sym (length-replicate n (pair_of row)));
}

-- The pairs of the rows stand in an index: the row at the index of a pair is of that pair,
row_at : (rows : List Pair) (pairs : List (ℕ × ℕ)) (pair k : ℕ × ℕ) (i : ℕ) (row : Pair) → pairs ≡ map pair_of rows → slice_get pairs i ≡ Some k → same_pair pair k ≡ true → row ≡ get_or rows i row
    → (i < length rows) × (pair_of row ≡ pair)
row_at rows pairs pair k i row indexed at same is =
    let here : slice_get (map pair_of rows) i ≡ Some k = ap (λ (ps : List (ℕ × ℕ)). slice_get ps i) (sym indexed) ∙ at in
    let within : i < length rows = omega (arith, slice_get_within (map pair_of rows) i k here, length-map rows pair_of) in
    let found : pair_of (get_or rows i row) ≡ k = sym (get_or-map pair_of rows i row k within) ∙ get_or_from_slice_get (map pair_of rows) i k k here in
    (within, ap pair_of is ∙ found ∙ sym (same_pair-equal pair k same))

-- and it is told more often,
pub AddsPairs-at : (old rows : List Pair) (pairs : List (ℕ × ℕ)) (pair k : ℕ × ℕ) (n i : ℕ) (row : Pair) → pairs ≡ map pair_of rows → slice_get pairs i ≡ Some k → same_pair pair k ≡ true → row ≡ get_or rows i row → 0 < n → old ≡ rows
    → AddsPairs old (set rows i (record row { times = row.times + n })) (replicate n pair)
AddsPairs-at old rows pairs pair k n i row indexed at same is more seen =
    let here = row_at rows pairs pair k i row indexed at same is in
    rw seen (subst (λ (p : ℕ × ℕ). AddsPairs rows (set rows i (record row { times = row.times + n })) (replicate n p)) here.1 (AddsPairs-row rows i n row here.0 is more))

-- while the pairs stay.
pub pairs-at : (rows : List Pair) (pairs : List (ℕ × ℕ)) (i n : ℕ) (row : Pair) → pairs ≡ map pair_of rows → row ≡ get_or rows i row → pairs ≡ map pair_of (set rows i (record row { times = row.times + n }))
pairs-at rows pairs i n row indexed is = indexed ∙ sym (map-set_same pair_of rows i (record row { times = row.times + n }) row (ap pair_of is))

pub insert_key-present : (pairs : List (ℕ × ℕ)) (pair : ℕ × ℕ) → false ≡ not (list_any (same_pair pair) pairs) → insert_key same_pair pairs pair ≡ pairs
insert_key-present pairs pair known =
    elim (list_any (same_pair pair) pairs) as (λ b. false ≡ not b → (if b then pairs else pairs ++ pair ∷ []) ≡ pairs) [ true ↦ λ _. refl | false ↦ λ no. absurd cc ] known

-- a row of its own for a pair that has none
distinct-push : (rows : List Pair) (from to : ℕ) → count_by (λ r. r.from == from && r.to == to) rows ≡ 0 → AllDistinct (map pair_of rows) → AllDistinct (map pair_of rows ++ (from, to) ∷ [])
distinct-push [] from to none old = (refl, tt)
distinct-push (row ∷ rows) from to none old =
    elim (row.from == from && row.to == to) as (λ b. ◌≡◌ {A = ℕ} (cond b 1 0 + count_by (λ r. r.from == from && r.to == to) rows) 0
    → (row.from == from && row.to == to) ≡ b → AllDistinct (map pair_of (row ∷ rows) ++ (from, to) ∷ [])) [
      | true ↦ λ none here. absurd (omega (arith, none))
      | false ↦ λ none here. (
        sum_by_push (counted (same_pair (pair_of row))) (map pair_of rows) (from, to)
            ∙ ap (λ b. times_of (pair_of row) (map pair_of rows) + cond b 1 0) here ∙ omega (arith, old.0),
        distinct-push rows from to (omega (arith, none)) old.1,
      )
    ] (sym (sum_by-cons (counted (λ (r : Pair). r.from == from && r.to == to)) row rows) ∙ none) refl

-- no row is of a pair that the index has not
absent : (rows : List Pair) (from to : ℕ) → list_any (same_pair (from, to)) (map pair_of rows) ≡ false → count_by (λ (r : Pair). r.from == from && r.to == to) rows ≡ 0
absent [] from to none = refl
absent (row ∷ rows) from to none =
    let parts = either_false (same_pair (from, to) (pair_of row)) (list_any (same_pair (from, to)) (map pair_of rows)) none in
    let other : (row.from == from && row.to == to) ≡ false = same_pair-other (from, to) (pair_of row) parts.0 in
    sum_by-cons (counted (λ (r : Pair). r.from == from && r.to == to)) row rows
    ∙ ap (λ b. cond b 1 0 + count_by (λ (r : Pair). r.from == from && r.to == to) rows) other ∙ omega (arith, absent rows from to parts.1)
  where
    either_false : (a b : Bool) → (a || b) ≡ false → (a ≡ false) × (b ≡ false)
    either_false true b e = absurd cc
    either_false false b e = (refl, e)

pub AddsPairs-new : (old rows : List Pair) (pairs : List (ℕ × ℕ)) (from to n : ℕ) → pairs ≡ map pair_of rows → true ≡ not (list_any (same_pair (from, to)) pairs) → 0 < n → old ≡ rows
    → AddsPairs old (rows ++ record { from = from; to = to; times = n } ∷ []) (replicate n (from, to))
AddsPairs-new old rows pairs from to n indexed is_new more seen =
    let new : Pair = record { from = from; to = to; times = n } in
    let none = absent rows from to (ap (list_any (same_pair (from, to))) (sym indexed) ∙ unknown (list_any (same_pair (from, to)) pairs) is_new) in
    rw seen record {
      table = λ old. record {
        distinct = subst AllDistinct (sym (map_push pair_of rows new)) (distinct-push rows from to none old.distinct);
        positive = positive-push rows new more old.positive;
      };
      times = λ p. sum_by_push (times_of_row p) rows new ∙ ap (λ k. times_in rows p + k) (sym (count_by-replicate (same_pair p) (from, to) n));
      total = sum_by_push (λ (r : Pair). r.times) rows new ∙ ap (λ k. total_in rows + k) (sym (length-replicate n (from, to)));
    }
  where
    unknown : (b : Bool) → true ≡ not b → b ≡ false
    unknown true e = absurd cc
    unknown false e = refl

pub AddsPairs-none : (rows : List Pair) → AddsPairs rows rows []
AddsPairs-none rows = record { table = λ old. old; times = λ p. omega arith; total = omega arith }

-- what two steps add, one behind the other
pub AddsPairs-append : (rows new last : List Pair) (ps qs : List (ℕ × ℕ)) → AddsPairs rows new ps → AddsPairs new last qs → AddsPairs rows last (ps ++ qs)
AddsPairs-append rows new last ps qs first second = record {
  table = λ old. second.table (first.table old);
  times = λ p. omega (arith, first.times p, second.times p, sum_by-append (counted (same_pair p)) ps qs);
  total = omega (arith, first.total, second.total, length-append ps qs);
}

-- the ranges that were counted so far, where these branches are left
pub record AddsRangesSoFar (rows new : List Pair) (branches left : List (ℕ × ℕ)) : Type 0 where
  pub done : List (ℕ × ℕ)
  pub adds : AddsPairs rows new done
  pub joined : done ++ ranges_between left ≡ ranges_between branches
  pub fewer : length done + length left ≤ length branches

AddsRangesSoFar-next : (rows new last : List Pair) (branches left rest two : List (ℕ × ℕ)) → AddsRangesSoFar rows new branches left
    → two ≡ take 2 left → 2 ≤ length left → rest ≡ drop 1 left → AddsPairs new last (((get_or two 1 (0, 0)).1, (get_or two 0 (0, 0)).0) ∷ []) → AddsRangesSoFar rows last branches rest
unfolding ranges_between
AddsRangesSoFar-next rows new last branches [] rest two so_far front long back adds = absurd (omega arith)
AddsRangesSoFar-next rows new last branches (x ∷ []) rest two so_far front long back adds = absurd (omega arith)
AddsRangesSoFar-next rows new last branches (x ∷ y ∷ more) rest two so_far front long back adds =
    let range : ℕ × ℕ = (y.1, x.0) in
    let adds_one : AddsPairs new last (range ∷ []) = subst (λ (w : List (ℕ × ℕ)). AddsPairs new last (((get_or w 1 (0, 0)).1, (get_or w 0 (0, 0)).0) ∷ [])) front adds in
    record {
      done = so_far.done ++ range ∷ [];
      adds = AddsPairs-append rows new last so_far.done (range ∷ []) so_far.adds adds_one;
      joined = subst (λ (r : List (ℕ × ℕ)). (so_far.done ++ range ∷ []) ++ ranges_between r ≡ ranges_between branches) (sym back) (append_assoc so_far.done (range ∷ []) (ranges_between (y ∷ more)) ∙ so_far.joined);
      fewer = omega (arith, so_far.fewer, ap length back, length-append so_far.done (range ∷ []));
    }

-- one turn: the range between the first two of the branches that were left
pub AddsRangesSoFar-more : (rows new last : List Pair) (branches left rest two : List (ℕ × ℕ)) (size : ℕ) → size ≡ 2 → AddsRangesSoFar rows new branches left
    → two ≡ take size left → size ≤ length left → rest ≡ drop 1 left → AddsPairs new last (((get_or two 1 (0, 0)).1, (get_or two 0 (0, 0)).0) ∷ []) → AddsRangesSoFar rows last branches rest
AddsRangesSoFar-more rows new last branches left rest two size is so_far front long back adds =
    AddsRangesSoFar-next rows new last branches left rest two so_far (subst (λ n. two ≡ take n left) is front) (omega arith) back adds

-- fewer than two branches are left: no range is
pub AddsRangesSoFar-all : (rows new : List Pair) (branches left : List (ℕ × ℕ)) → AddsRangesSoFar rows new branches left → length left < 2 → AddsPairs rows new (ranges_between branches)
unfolding ranges_between
AddsRangesSoFar-all rows new branches [] so_far short = subst (AddsPairs rows new) (sym (append-nil so_far.done) ∙ so_far.joined) so_far.adds
AddsRangesSoFar-all rows new branches (x ∷ []) so_far short = subst (AddsPairs rows new) (sym (append-nil so_far.done) ∙ so_far.joined) so_far.adds
AddsRangesSoFar-all rows new branches (x ∷ y ∷ more) so_far short = absurd (omega arith)

-- a sample has fewer ranges than branches
pub length-ranges_between : (branches : List (ℕ × ℕ)) → length (ranges_between branches) ≤ length branches
unfolding ranges_between
length-ranges_between branches =
    omega (arith, length-map (zip branches (drop 1 branches)) range_between, length-zip branches (drop 1 branches))

pub length-counted : {A : Type 0} (with_ranges : Bool) (all : List A) → length (counted_of with_ranges all) ≤ length all
length-counted true all = omega arith
length-counted false all = omega arith

-- what is kept of a table, where it grew from one with the same rows
table-grown : (old rows new : List Pair) (pairs : List (ℕ × ℕ)) → rows ≡ old → AddsPairs rows new pairs → IsTable old → IsTable new × (total_in new ≡ total_in old + length pairs)
table-grown old rows new pairs same adds table = (adds.table (subst IsTable (sym same) table), adds.total ∙ ap (λ r. total_in r + length pairs) same)

-- what is kept where a sample was counted
pub IsCounted-stack : (old : Tally) (count : ℕ) (branches ranges new_branches new_ranges : List Pair) (stack ranged : List (ℕ × ℕ)) → IsCounted old count
    → branches ≡ old.branches → AddsPairs branches new_branches stack → ranges ≡ old.ranges → ranged ≡ counted_of old.with_ranges stack → AddsPairs ranges new_ranges (ranges_between ranged)
    → count + length stack ≤ max_branches → IsCounted (record { branches = new_branches; ranges = new_ranges; with_ranges = old.with_ranges }) (count + length stack)
IsCounted-stack old count branches ranges new_branches new_ranges stack ranged kept same_branches more_branches same_ranges is_ranged more_ranges room =
    let grown_branches = table-grown old.branches branches new_branches stack same_branches more_branches kept.branches in
    let grown_ranges = table-grown old.ranges ranges new_ranges (ranges_between ranged) same_ranges more_ranges kept.ranges in
    record {
      branches = grown_branches.0;
      ranges = grown_ranges.0;
      total = omega (arith, kept.total, grown_branches.1);
      within = room;
      fewer_ranges = omega (arith, kept.fewer_ranges, grown_ranges.1, length-ranges_between ranged, length-counted old.with_ranges stack, ap length is_ranged);
    }

-- what is kept where the branches of a sample and these ranges were counted
pub IsCounted-sample : (old : Tally) (count : ℕ) (branches ranges new_branches new_ranges : List Pair) (stack ran ranged : List (ℕ × ℕ)) → IsCounted old count
    → branches ≡ old.branches → AddsPairs branches new_branches stack → ranges ≡ old.ranges → ranged ≡ counted_of old.with_ranges ran → AddsPairs ranges new_ranges ranged
    → length ran ≤ length stack → count + length stack ≤ max_branches → IsCounted (record { branches = new_branches; ranges = new_ranges; with_ranges = old.with_ranges }) (count + length stack)
IsCounted-sample old count branches ranges new_branches new_ranges stack ran ranged kept same_branches more_branches same_ranges is_ranged more_ranges fewer room =
    let grown_branches = table-grown old.branches branches new_branches stack same_branches more_branches kept.branches in
    let grown_ranges = table-grown old.ranges ranges new_ranges ranged same_ranges more_ranges kept.ranges in
    record {
      branches = grown_branches.0;
      ranges = grown_ranges.0;
      total = omega (arith, kept.total, grown_branches.1);
      within = room;
      fewer_ranges = omega (arith, kept.fewer_ranges, grown_ranges.1, length-counted old.with_ranges ran, ap length is_ranged, fewer);
    }

-- more pairs were counted
pub Tallies-more : (pairs more : List (ℕ × ℕ)) (rows new : List Pair) → Tallies pairs rows → AddsPairs rows new more → Tallies (pairs ++ more) new
Tallies-more pairs more rows new tallies adds = record {
  table = adds.table tallies.table;
  times = λ p. omega (arith, adds.times p, tallies.times p, sum_by-append (counted (same_pair p)) pairs more);
  total = omega (arith, adds.total, tallies.total, length-append pairs more);
}
