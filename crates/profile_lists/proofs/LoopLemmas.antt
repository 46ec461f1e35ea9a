-- What the loops have done so far.
use Rattle.std.proofs.Common.{◌≡◌, ◌≤◌, ◌<◌, ℕ, zero, suc, ◌+◌, ◌-◌, ◌==◌, Bool, true, false, cond, List, [], ◌∷◌, ◌++◌, drop, take, reverse, length, get_or, set, replicate, refl, sym, ap, subst, ◌∙◌, arith, IsSorted, append_assoc, add-zero}
use Rattle.std.specs.Ordering.{is_gt, is_lt, nat_cmp, ordering_then, ordering_reverse}
use Rattle.std.specs.declared.cmp.Ordering.TheVariants.{Less, Equal, Greater}
use Rattle.std.proofs.lemmas.Bool.{true≢false}
use Rattle.std.proofs.lemmas.Bool.Decides.{nat_tests}
use Rattle.std.proofs.lemmas.Grind.{reverse_onto, replicate_next}
use Rattle.std.proofs.lemmas.List.{append-nil, reverse-append, reverse-reverse, drop_all, drop_more, take_more, get_or_at, set_at, map-append, length-map, length-take-le}
use Rattle.profile_lists.proofs.FrontLemmas.{lists_tell_apart, Ascending}
use Rattle.profile_lists.proofs.OrderLemmas.{steps_tell_apart}
use Rattle.profile_lists.proofs.RowLemmas.{sums_step, are_rows}
use Rattle.profile_model.specs.Profile.{capped}
use Rattle.profile_lists.specs.Rows.{shared, same_step, sums_of, rows_along, rows_behind, first_way, way_before, padded, raised, ways_of, AreRowsOf}
use Rattle.profile_lists.specs.Ways.{step_cmp, way_cmp, item_cmp}
use Rattle.profile_lists.specs.declared.item.Item.{Item}
use Rattle.profile_lists.specs.declared.item.Step.{Step}
use Rattle.profile_lists.specs.declared.rows.Row.{Row}

-- common steps
pub shared_within : {T : Type 0} (same : T → T → Bool) (a b : List T) → shared same a b ≤ length b
shared_within same [] b = omega arith
shared_within same (s ∷ a) [] = omega arith
shared_within same (s ∷ a) (t ∷ b) =
    elim (same s t) as (λ e. cond e (suc (shared same a b)) 0 ≤ suc (length b)) [
      | true ↦ let h : shared same a b ≤ length b = shared_within same a b in omega arith
      | false ↦ omega arith
    ]

-- items in order have ways in order
sorted_tail : (x : Item) (xs : List Item) → IsSorted item_cmp (x ∷ xs) → IsSorted item_cmp xs
sorted_tail x xs s = λ k d low high.
    let e : suc k + 1 ≡ suc (k + 1) = omega arith in
    subst (λ n. is_lt (item_cmp (get_or (x ∷ xs) n d) (get_or (x ∷ xs) (suc k) d)) ≡ false) e (s (suc k) d (omega arith) (omega arith))

not_behind_next : (x y : Item) → is_lt (item_cmp y x) ≡ false → is_gt (way_cmp x.way.items y.way.items) ≡ false
not_behind_next x y n =
    let o = (lists_tell_apart step_cmp steps_tell_apart).total in
    elim (way_cmp x.way.items y.way.items) as (λ r. way_cmp x.way.items y.way.items ≡ r → is_gt r ≡ false) [
      | Less ↦ λ _. refl
      | Equal ↦ λ _. refl
      | Greater ↦ λ e. absurd (true≢false (sym (ap (λ r. is_lt (ordering_then r (ordering_then (nat_cmp y.count x.count) (nat_cmp y.key x.key)))) (o.antisymm y.way.items x.way.items ∙ ap ordering_reverse e)) ∙ n))
    ] refl

ascending_from : (x : Item) (xs : List Item) → IsSorted item_cmp (x ∷ xs) → Ascending step_cmp x.way.items (ways_of xs)
ascending_from x [] s = tt
ascending_from x (y ∷ xs) s = (not_behind_next x y (s 0 x (omega arith) (omega arith)), ascending_from y xs (sorted_tail x (y ∷ xs) s))

none_first : (w : List Step) → is_gt (way_cmp [] w) ≡ false
none_first [] = refl
none_first (s ∷ w) = refl

pub ascending_items : (items : List Item) → IsSorted item_cmp items → Ascending step_cmp [] (ways_of items)
ascending_items [] s = tt
ascending_items (x ∷ xs) s = (none_first x.way.items, ascending_from x xs s)

ascending_drop : (k : ℕ) (before : List Step) (items rest : List Item) (item : Item) → Ascending step_cmp before (ways_of items) → drop k items ≡ item ∷ rest → Ascending step_cmp item.way.items (ways_of rest)
ascending_drop zero before [] rest item up e = cc
ascending_drop zero before (x ∷ xs) rest item up e = subst (λ ys. Ascending step_cmp (first_way ys) (ways_of (drop 1 ys))) e up.1
ascending_drop (suc k) before [] rest item up e = cc
ascending_drop (suc k) before (x ∷ xs) rest item up e = ascending_drop k x.way.items xs rest item up.1 e

-- the rows so far
pub record RowsSoFar (items : List Item) (left : ℕ) (sums : List ℕ) (rows : List Row) : Type 0 where
  pub within : left ≤ length items
  pub sums_are : sums ≡ sums_of (drop left items)
  pub rows_are : reverse rows ≡ rows_behind (way_before items left) (drop left items)

pub none_so_far : (items : List Item) → drop (length items) items ≡ [] → RowsSoFar items (length items) [] []
none_so_far items e = record {
  within = omega arith;
  sums_are = ap sums_of (sym e);
  rows_are = ap (rows_behind (way_before items (length items))) (sym e);
}

before_next_one : (items rest : List Item) (item : Item) (k : ℕ) → drop k items ≡ item ∷ rest → way_before items (k + 1) ≡ item.way.items
before_next_one items rest item k e =
    let s : k + 1 == 0 ≡ false = grind (arith, nat_tests) in
    let p : k + 1 - 1 ≡ k = omega arith in
    let known : way_before items (k + 1) ≡ first_way (drop (k + 1 - 1) items) = ap (λ b. cond b [] (first_way (drop (k + 1 - 1) items))) s in
    known ∙ ap (λ n. first_way (drop n items)) p ∙ ap first_way e

pub one_more_item : (items rest : List Item) (item : Item) (k : ℕ) (sums new_sums : List ℕ) (rows new_rows : List Row) → IsSorted item_cmp items → drop k items ≡ item ∷ rest → drop (k + 1) items ≡ rest → k ≤ length items → RowsSoFar items (k + 1) sums rows → new_sums ≡ raised item.count (padded (length item.way.items) (take (shared same_step (first_way (drop (k + 1) items)) item.way.items) sums)) → new_rows ≡ rows ++ reverse (drop (shared same_step (way_before items k) item.way.items) (rows_along item 0 item.way.items new_sums)) → RowsSoFar items k new_sums new_rows
one_more_item items rest item k sums new_sums rows new_rows sorted here next within far e f =
    let w = item.way.items in
    let up : Ascending step_cmp w (ways_of rest) = ascending_drop k [] items rest item (ascending_items items sorted) here in
    let old : sums ≡ sums_of rest = far.sums_are ∙ ap sums_of next in
    let now : new_sums ≡ sums_of (item ∷ rest) =
    e ∙ (λ i. raised item.count (padded (length w) (take (shared same_step (first_way (next i)) w) (old i)))) ∙ sym (sums_step item rest up) in
    let own = drop (shared same_step (way_before items k) w) (rows_along item 0 w new_sums) in
    let turned : reverse new_rows ≡ own ++ reverse rows = ap reverse f ∙ reverse-append rows (reverse own) ∙ ap (λ xs. xs ++ reverse rows) (reverse-reverse own) in
    let others : reverse rows ≡ rows_behind w rest = far.rows_are ∙ (λ i. rows_behind (before_next_one items rest item k here i) (next i)) in
    let all : own ++ reverse rows ≡ rows_behind (way_before items k) (item ∷ rest) =
    λ i. drop (shared same_step (way_before items k) w) (rows_along item 0 w (now i)) ++ others i in
    record {
      within = within;
      sums_are = now ∙ ap sums_of (sym here);
      rows_are = turned ∙ all ∙ ap (rows_behind (way_before items k)) (sym here);
    }

pub all_rows : (items : List Item) (left : ℕ) (sums : List ℕ) (rows : List Row) → IsSorted item_cmp items → RowsSoFar items left sums rows → left ≡ 0 → AreRowsOf items (reverse rows)
all_rows items left sums rows sorted far e =
    let whole : reverse rows ≡ rows_behind [] items = far.rows_are ∙ ap (λ n. rows_behind (way_before items n) (drop n items)) e in
    subst (AreRowsOf items) (sym whole) (are_rows items (ascending_items items sorted))

-- the rows of one item
row_step : (item : Item) (base k : ℕ) (steps : List Step) (sums : List ℕ) (d : Step) (n : ℕ) → k < length steps → length sums ≡ length steps → drop k (rows_along item base steps sums) ≡ record { depth = base + k; step = get_or steps k d; total = get_or sums k n; count = item.count; key = item.key } ∷ drop (suc k) (rows_along item base steps sums)
row_step item base k [] sums d n h e = absurd (omega arith)
row_step item base k (s ∷ steps) [] d n h e = absurd (omega arith)
row_step item base zero (s ∷ steps) (t ∷ sums) d n h e =
    let b : base ≡ base + 0 = omega arith in
    λ i. record { depth = b i; step = s; total = t; count = item.count; key = item.key } ∷ rows_along item (suc base) steps sums
row_step item base (suc k) (s ∷ steps) (t ∷ sums) d n h e =
    let b : suc base + k ≡ base + suc k = omega arith in
    let rest = drop (suc k) (rows_along item (suc base) steps sums) in
    row_step item (suc base) k steps sums d n (omega arith) (omega arith)
    ∙ λ i. record { depth = b i; step = get_or steps k d; total = get_or sums k n; count = item.count; key = item.key } ∷ rest

pub one_more_row : (item : Item) (k : ℕ) (steps : List Step) (sums : List ℕ) (step : Step) (total : ℕ) (old rows : List Row) → k < length steps → length sums ≡ length steps → step ≡ get_or steps k step → total ≡ get_or sums k 0 → rows ≡ old ++ reverse (drop (k + 1) (rows_along item 0 steps sums)) → rows ++ record { depth = k; step = step; total = total; count = item.count; key = item.key } ∷ [] ≡ old ++ reverse (drop k (rows_along item 0 steps sums))
one_more_row item k steps sums step total old rows h e is_step is_total so_far =
    let L = rows_along item 0 steps sums in
    let row : Row = record { depth = k; step = step; total = total; count = item.count; key = item.key } in
    let z : 0 + k ≡ k = omega arith in
    let s : k + 1 ≡ suc k = omega arith in
    let here : drop k L ≡ row ∷ drop (k + 1) L =
    row_step item 0 k steps sums step 0 h e
    ∙ λ i. record { depth = z i; step = sym is_step i; total = sym is_total i; count = item.count; key = item.key } ∷ drop (sym s i) L in
    ap (λ xs. xs ++ row ∷ []) so_far ∙ append_assoc old (reverse (drop (k + 1) L)) (row ∷ [])
    ∙ ap (λ xs. old ++ xs) (sym (reverse_onto (drop (k + 1) L) row []))
    ∙ ap (λ xs. old ++ reverse xs) (sym here)

rows_end : (item : Item) (base : ℕ) (steps : List Step) (sums : List ℕ) → drop (length steps) (rows_along item base steps sums) ≡ []
rows_end item base [] sums = refl
rows_end item base (s ∷ steps) [] = refl
rows_end item base (s ∷ steps) (n ∷ sums) = rows_end item (suc base) steps sums

pub no_rows : (item : Item) (depth : ℕ) (steps : List Step) (sums : List ℕ) (old : List Row) → depth ≡ length steps → old ≡ old ++ reverse (drop depth (rows_along item 0 steps sums))
no_rows item depth steps sums old e =
    sym (ap (λ n. old ++ reverse (drop n (rows_along item 0 steps sums))) e
    ∙ ap (λ xs. old ++ reverse xs) (rows_end item 0 steps sums) ∙ append-nil old)

-- the common steps end where a way does
shared_none : {T : Type 0} (same : T → T → Bool) (a : List T) → shared same a [] ≡ 0
shared_none same [] = refl
shared_none same (s ∷ a) = refl

pub shared_end : {T : Type 0} (same : T → T → Bool) (a b : List T) (n : ℕ) → length b ≤ n → shared same a b ≡ n + shared same (drop n a) (drop n b) → n ≡ shared same a b
shared_end same a b n h e =
    sym (e ∙ ap (λ ys. n + shared same (drop n a) ys) (drop_all n b h) ∙ ap (λ k. n + k) (shared_none same (drop n a)) ∙ add-zero n)

-- zeros behind numbers
pub pad_more : (old now : List ℕ) (k : ℕ) → length old ≤ k → now ≡ old ++ replicate (k - length old) 0 → now ++ 0 ∷ [] ≡ old ++ replicate (k + 1 - length old) 0
pad_more old now k h e =
    let n : k - length old + 1 ≡ k + 1 - length old = omega arith in
    ap (λ xs. xs ++ 0 ∷ []) e ∙ append_assoc old (replicate (k - length old) 0) (0 ∷ [])
    ∙ ap (λ xs. old ++ xs) (sym (replicate_next (k - length old) 0)) ∙ ap (λ m. old ++ replicate m 0) n

-- numbers raised one after the other
pub raise_more : (count i v : ℕ) (old now : List ℕ) → i < length old → now ≡ raised count (take i old) ++ drop i old → v ≡ capped (get_or now i 0 + count) → set now i v ≡ raised count (take (i + 1) old) ++ drop (i + 1) old
raise_more count i v old now h e is =
    let x = get_or old i 0 in
    let front = raised count (take i old) in
    let size : length front ≡ i = length-map (take i old) (λ n. capped (n + count)) ∙ length-take-le i old (omega arith) in
    let here : now ≡ front ++ x ∷ drop (i + 1) old = e ∙ ap (λ ys. front ++ ys) (drop_more old i 0 h) in
    let at : get_or now i 0 ≡ x = ap (λ ys. get_or ys i 0) here ∙ get_or_at front x (drop (i + 1) old) 0 i size in
    let value : v ≡ capped (x + count) = is ∙ ap (λ n. capped (n + count)) at in
    let last : raised count (take (i + 1) old) ≡ front ++ capped (x + count) ∷ [] = ap (raised count) (take_more old i 0 h) ∙ map-append (λ n. capped (n + count)) (take i old) (x ∷ []) in
    ap (λ ys. set ys i v) here ∙ set_at front x (drop (i + 1) old) v i size
    ∙ ap (λ z. front ++ z ∷ drop (i + 1) old) value
    ∙ sym (append_assoc front (capped (x + count) ∷ []) (drop (i + 1) old))
    ∙ ap (λ ys. ys ++ drop (i + 1) old) (sym last)
