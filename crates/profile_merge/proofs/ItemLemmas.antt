-- What items tell of a head, a count or a target.
use Rattle.std.proofs.Common.{◌≡◌, ◌≢◌, ℕ, zero, suc, ◌+◌, ◌*◌, ◌^◌, ◌<◌, ◌≤◌, Bool, true, false, cond, List, [], ◌∷◌, ◌++◌, take, length, get_or, None, Some, refl, sym, ap, subst, ◌∙◌, inl, inr, arith, true≢false, if◌then◌else◌}
use Rattle.std.specs.Prelude.{find}
use Rattle.std.specs.Option.{option_map}
use Rattle.std.proofs.lemmas.Bool.{cases_lt, eqb-true}
use Rattle.std.proofs.lemmas.Bool.Decides.{nat_tests}
use Rattle.std.proofs.lemmas.List.{take_more, length-take, get_or-take, get_or_default}
use Rattle.std.proofs.lemmas.List.Sums.{sum_by-cons, sum_by_push}
use Rattle.std.proofs.Math.Nat.{mul-add}
use Rattle.profile_tree.proofs.ListLemmas.{all_append, all_places}
use Rattle.std.specs.List.{AllByRecursion}
use Rattle.profile_text.specs.Draft.{IsGivenItem, IsGivenWhat}
use Rattle.profile_text.specs.declared.item.Item.{Item}
use Rattle.profile_text.specs.declared.item.What.{What}
use Rattle.profile_text.specs.declared.item.What.TheVariants.{Head, Count, Target}
use Rattle.profile_merge.specs.Sums.{Sums, sum_in, same_what, number_at, TellOnce, AddsPart, is_over, first_over, IsWithSum, HasPlace, HavePlaces, KeepsPlaces, AreSumsOf, StaySumsOf}
use Rattle.profile_merge.proofs.CalledLemmas.{targets_same}

pub whats_same : (v w : What) → same_what v w ≡ true → v ≡ w
whats_same (Head n) (Head m) h = let e : n.0 ≡ m.0 = eqb-true _ _ h in λ i. Head (record { 0 = e i })
whats_same (Head n) (Count k) h = absurd (true≢false (sym h))
whats_same (Head n) (Target k m) h = absurd (true≢false (sym h))
whats_same (Count k) (Head n) h = absurd (true≢false (sym h))
whats_same (Count k) (Count l) h = let e : k.0 ≡ l.0 = eqb-true _ _ h in λ i. Count (record { 0 = e i })
whats_same (Count k) (Target l n) h = absurd (true≢false (sym h))
whats_same (Target k n) (Head m) h = absurd (true≢false (sym h))
whats_same (Target k n) (Count l) h = absurd (true≢false (sym h))
whats_same (Target k n) (Target l m) h = let e = targets_same (k, n) (l, m) h in λ i. Target (e i).0 (e i).1

-- one item
abbrev part : What → Item → ℕ
part what item = cond (same_what item.what what) item.times 0

-- nothing is told of what no item is of
none_told : (items : List Item) (what : What) → ((k : ℕ) (d : Item) → k < length items → (get_or items k d).what ≢ what) → number_at items what ≡ 0
none_told [] what other = refl
none_told (item ∷ items) what other =
    sum_by-cons (part what) item items
    ∙ (λ i. by (same_what item.what what) refl i + none_told items what (λ k d within. other (suc k) d (omega arith)) i)
  where
    by : (b : Bool) → same_what item.what what ≡ b → cond b item.times 0 ≡ 0
    by true e = absurd (other 0 item (omega arith) (whats_same item.what what e))
    by false e = refl

-- of an item's head, count or target nothing was told before it
pub none_before : (items : List Item) (i : ℕ) (item : Item) → TellOnce items → i < length items → item ≡ get_or items i item → number_at (take i items) item.what ≡ 0
none_before items i item once within is =
    none_told (take i items) item.what (λ k d inside same.
    let small : k < i = omega (arith, inside, length-take i items) in
    once k i item small within
    (ap (λ (x : Item). x.what) (sym (get_or-take i items k item small)) ∙ other k d inside same ∙ ap (λ (x : Item). x.what) is))
  where
    any_default : (xs : List Item) (k : ℕ) (c d : Item) → k < length xs → get_or xs k c ≡ get_or xs k d
    any_default [] k c d h = absurd (omega arith)
    any_default (x ∷ xs) zero c d h = refl
    any_default (x ∷ xs) (suc k) c d h = any_default xs k c d (omega arith)

    other : (k : ℕ) (d : Item) → k < length (take i items) → (get_or (take i items) k d).what ≡ item.what → (get_or (take i items) k item).what ≡ item.what
    other k d inside same = ap (λ (x : Item). x.what) (any_default (take i items) k item d inside) ∙ same

-- one item more
pub number_more : (items : List Item) (i : ℕ) (item : Item) (what : What) → i < length items → item ≡ get_or items i item
    → number_at (take (i + 1) items) what ≡ number_at (take i items) what + part what item
number_more items i item what within is =
    ap (λ l. number_at l what) (take_more items i item within ∙ ap (λ x. take i items ++ x ∷ []) (sym is))
    ∙ sum_by_push (part what) (take i items) item

-- an item fits where none is over
pub item_fits : (weight : ℕ) (sums : Sums) (items : List Item) (i : ℕ) (item : Item) → first_over weight sums items ≡ None → i < length items → item ≡ get_or items i item
    → weight * item.times + sum_in sums item.what < 2 ^ 64
item_fits weight sums [] i item none within is = absurd (omega arith)
item_fits weight sums (x ∷ items) zero item none within is =
    let fits = by (is_over weight sums x) refl none in
    subst (λ (y : Item). weight * y.times + sum_in sums y.what < 2 ^ 64) (sym is) (let h = fits.0 in grind (arith, nat_tests))
  where
    some_none : {A : Type 0} {y : A} → Some y ≡ None → ⊥
    some_none e = absurd cc

    by : (b : Bool) → is_over weight sums x ≡ b → option_map (λ (y : Item). y.line) (cond b (Some x) (find (is_over weight sums) items)) ≡ None
        → (is_over weight sums x ≡ false) × (first_over weight sums items ≡ None)
    by true e h = absurd (some_none h)
    by false e h = (e, h)
item_fits weight sums (x ∷ items) (suc i) item none within is =
    item_fits weight sums items i item (by (is_over weight sums x) none) (omega arith) is
  where
    by : (b : Bool) → option_map (λ (y : Item). y.line) (cond b (Some x) (find (is_over weight sums) items)) ≡ None → first_over weight sums items ≡ None
    by true h = absurd cc
    by false h = h

-- no item up to here is over; then this one is the first, or none is
pub over_here : (weight : ℕ) (sums : Sums) (items : List Item) (i : ℕ) (item : Item) → first_over weight sums (take i items) ≡ None → i < length items → item ≡ get_or items i item
    → is_over weight sums item ≡ true → first_over weight sums items ≡ Some item.line
over_here weight sums [] i item none within is over = absurd (omega arith)
over_here weight sums (x ∷ items) zero item none within is over =
    ap (λ b. option_map (λ (y : Item). y.line) (cond b (Some x) (find (is_over weight sums) items))) (ap (is_over weight sums) (sym is) ∙ over) ∙ ap (λ (y : Item). Some y.line) (sym is)
over_here weight sums (x ∷ items) (suc i) item none within is over =
    by (is_over weight sums x) none (λ h. over_here weight sums items i item h (omega arith) is over)
  where
    by : (b : Bool) → option_map (λ (y : Item). y.line) (cond b (Some x) (find (is_over weight sums) (take i items))) ≡ None
        → (first_over weight sums (take i items) ≡ None → first_over weight sums items ≡ Some item.line)
        → option_map (λ (y : Item). y.line) (cond b (Some x) (find (is_over weight sums) items)) ≡ Some item.line
    by true h rest = absurd cc
    by false h rest = rest h

pub none_over_more : (weight : ℕ) (sums : Sums) (items : List Item) (i : ℕ) (item : Item) → first_over weight sums (take i items) ≡ None → i < length items → item ≡ get_or items i item
    → is_over weight sums item ≡ false → first_over weight sums (take (i + 1) items) ≡ None
none_over_more weight sums items i item none within is fits =
    ap (first_over weight sums) (take_more items i item within ∙ ap (λ x. take i items ++ x ∷ []) (sym is)) ∙ pushed (take i items) none
  where
    pushed : (xs : List Item) → first_over weight sums xs ≡ None → first_over weight sums (xs ++ item ∷ []) ≡ None
    pushed [] h = ap (λ b. option_map (λ (y : Item). y.line) (cond b (Some item) None)) fits
    pushed (x ∷ xs) h = by (is_over weight sums x) h (pushed xs)
      where
        by : (b : Bool) → option_map (λ (y : Item). y.line) (cond b (Some x) (find (is_over weight sums) xs)) ≡ None → (first_over weight sums xs ≡ None → first_over weight sums (xs ++ item ∷ []) ≡ None)
            → option_map (λ (y : Item). y.line) (cond b (Some x) (find (is_over weight sums) (xs ++ item ∷ []))) ≡ None
        by true h rest = absurd cc
        by false h rest = rest h

-- ---- raising the sum of one item more
pub raised_more : (weight : ℕ) (items : List Item) (i : ℕ) (item : Item) (initial now after : Sums) → AddsPart weight (take i items) initial now → i < length items → item ≡ get_or items i item
    → IsWithSum now item.what (sum_in now item.what + weight * item.times) after → AddsPart weight (take (i + 1) items) initial after
raised_more weight items i item initial now after so_far within is set what =
    set what ∙ by (same_what item.what what) refl ∙ ap (λ n. sum_in initial what + weight * n) (sym (number_more items i item what within is))
  where
    n : ℕ
    n = number_at (take i items) what

    by : (b : Bool) → same_what item.what what ≡ b → (if b then sum_in now item.what + weight * item.times else sum_in now what) ≡ sum_in initial what + weight * (n + cond b item.times 0)
    by true e =
        let same : sum_in now item.what ≡ sum_in now what = ap (sum_in now) (whats_same item.what what e) in
        let told = so_far what in
        let split = mul-add weight n item.times in
        omega arith
    by false e =
        let told = so_far what in
        let split = mul-add weight n 0 in
        let nothing : weight * 0 ≡ 0 = omega arith in
        omega arith

-- the sum of an item is not raised before it
pub unraised : (weight : ℕ) (items : List Item) (i : ℕ) (item : Item) (initial now : Sums) → TellOnce items → AddsPart weight (take i items) initial now → i < length items → item ≡ get_or items i item
    → sum_in now item.what ≡ sum_in initial item.what
unraised weight items i item initial now once so_far within is =
    let told = so_far item.what in
    let none = ap (λ n. weight * n) (none_before items i item once within is) in
    omega arith

-- ---- places
pub keep_places : (items : List Item) (old new : Sums) → KeepsPlaces old new → HavePlaces old items → HavePlaces new items
keep_places [] old new kept places = tt
keep_places (item ∷ items) old new kept places = (kept item.what places.0, keep_places items old new kept places.1)

pub places_more : (items : List Item) (i : ℕ) (item : Item) (old new : Sums) → i < length items → item ≡ get_or items i item
    → HavePlaces old (take i items) → KeepsPlaces old new → HasPlace new item.what → HavePlaces new (take (i + 1) items)
places_more items i item old new within is places kept there =
    subst (HavePlaces new) (sym (take_more items i item within ∙ ap (λ x. take i items ++ x ∷ []) (sym is)))
    (all_append (λ (x : Item). HasPlace new x.what) (take i items) (item ∷ []) (keep_places (take i items) old new kept places) (there, tt))

-- one of all
pub item_at : (P : Item → Type 0) (items : List Item) (i : ℕ) (item : Item) → AllByRecursion P items → i < length items → item ≡ get_or items i item → P item
item_at P items i item all within is = subst P (sym is) (all_places P items all i item within)

pub all_take : (P : Item → Type 0) (i : ℕ) (items : List Item) → AllByRecursion P items → AllByRecursion P (take i items)
all_take P zero items all = tt
all_take P (suc i) [] all = tt
all_take P (suc i) (item ∷ items) all = (all.0, all_take P i items all.1)

-- sums of names and keys stay such with one place more
pub stay_more : (items : List Item) (i : ℕ) (item : Item) (initial old new : Sums) → i < length items → item ≡ get_or items i item → StaySumsOf (take i items) initial old
    → ((names keys : ℕ) → IsGivenWhat names keys item.what → AreSumsOf names keys old → AreSumsOf names keys new) → StaySumsOf (take (i + 1) items) initial new
stay_more items i item initial old new within is stay more names keys are given =
    let cut : take (i + 1) items ≡ take i items ++ item ∷ [] = take_more items i item within ∙ ap (λ x. take i items ++ x ∷ []) (sym is) in
    let parts = apart (take i items) (subst (AllByRecursion (IsGivenItem names keys)) cut given) in
    more names keys parts.1 (stay names keys are parts.0)
  where
    apart : (xs : List Item) → AllByRecursion (IsGivenItem names keys) (xs ++ item ∷ []) → AllByRecursion (IsGivenItem names keys) xs × IsGivenItem names keys item
    apart [] all = (tt, all.0)
    apart (x ∷ xs) all = let rest = apart xs all.1 in ((all.0, rest.0), rest.1)

pub stay_all : (items : List Item) (i : ℕ) (initial now : Sums) → StaySumsOf (take i items) initial now → StaySumsOf items initial now
stay_all items i initial now stay names keys are given = stay names keys are (all_take (IsGivenItem names keys) i items given)

-- nothing was raised
pub adds_none : (weight : ℕ) (sums : Sums) → AddsPart weight [] sums sums
adds_none weight sums what = omega arith

-- ---- the same at a place of the items
module _ (items : List Item) (i : ℕ) (d : Item) (within : i < length items) where
  itself : get_or items i d ≡ get_or items i (get_or items i d)
  itself = get_or_default items i d (get_or items i d) within

  pub over_at : (weight sum : ℕ) (sums : Sums) → sum ≡ sum_in sums (get_or items i d).what → first_over weight sums (take i items) ≡ None → 2 ^ 64 ≤ weight * (get_or items i d).times + sum
      → first_over weight sums items ≡ Some (get_or items i d).line
  over_at weight sum sums is none over = over_here weight sums items i (get_or items i d) none within itself (grind (arith, nat_tests))

  pub none_over_at : (weight sum : ℕ) (sums : Sums) → sum ≡ sum_in sums (get_or items i d).what → first_over weight sums (take i items) ≡ None → (2 ^ 64 ≤ weight * (get_or items i d).times + sum → ⊥)
      → first_over weight sums (take (i + 1) items) ≡ None
  none_over_at weight sum sums is none fits =
      none_over_more weight sums items i (get_or items i d) none within itself
      (elim (cases_lt (weight * (get_or items i d).times + sum) (2 ^ 64)) [ inl low ↦ grind (arith, nat_tests) | inr over ↦ absurd (fits over) ])

  pub places_at : (old new : Sums) → HavePlaces old (take i items) → KeepsPlaces old new → HasPlace new (get_or items i d).what → HavePlaces new (take (i + 1) items)
  places_at old new = places_more items i (get_or items i d) old new within itself

  pub stay_at : (initial old new : Sums) → StaySumsOf (take i items) initial old → ((names keys : ℕ) → IsGivenWhat names keys (get_or items i d).what → AreSumsOf names keys old → AreSumsOf names keys new)
      → StaySumsOf (take (i + 1) items) initial new
  stay_at initial old new = stay_more items i (get_or items i d) initial old new within itself

  pub fits_at : (weight sum : ℕ) (initial now : Sums) → sum ≡ sum_in now (get_or items i d).what → first_over weight initial items ≡ None → TellOnce items → AddsPart weight (take i items) initial now
      → sum + weight * (get_or items i d).times < 2 ^ 64
  fits_at weight sum initial now is none once so_far =
      let fits = item_fits weight initial items i (get_or items i d) none within itself in
      let same = unraised weight items i (get_or items i d) initial now once so_far within itself in
      omega arith

  pub raised_at : (weight : ℕ) (initial now after : Sums) → AddsPart weight (take i items) initial now
      → IsWithSum now (get_or items i d).what (sum_in now (get_or items i d).what + weight * (get_or items i d).times) after → AddsPart weight (take (i + 1) items) initial after
  raised_at weight initial now after so_far set = raised_more weight items i (get_or items i d) initial now after so_far within itself set
