-- Lists in order, and the beginnings that each has beyond the one before it.
use Rattle.std.proofs.Common.{◌≡◌, ℕ, zero, suc, Bool, true, false, cond, ◌&&◌, ◌||◌, List, [], ◌∷◌, ◌++◌, map, drop, refl, sym, ap, subst, ◌∙◌}
use Rattle.std.specs.Cmp.{IsTotalOrder}
use Rattle.std.specs.Cmp.Lexicographic.{slice_cmp, lists_total}
use Rattle.std.specs.List.{AllByRecursion, flat_map}
use Rattle.std.specs.List.Sorted.{IsStrictlySortedBy}
use Rattle.std.specs.declared.cmp.Ordering.{Ordering}
use Rattle.std.specs.declared.cmp.Ordering.TheVariants.{Less, Equal, Greater}
use Rattle.std.specs.Ordering.{is_eq, is_gt, eq_by_cmp, ordering_then, ordering_reverse}
use Rattle.std.proofs.lemmas.Bool.{true≢false}
use Rattle.std.proofs.lemmas.Cmp.{tied_itself}
use mathlib.Core.Bool.{or_assoc}
use Rattle.profile_model.proofs.StepLemmas.{and_first, and_second}
use Rattle.list_lemmas.proofs.Each.{all_append, all_then}
use Rattle.profile_model.specs.Laws.{TellsApart, has}
use Rattle.profile_model.specs.Orders.{ordered}
use Rattle.profile_model.specs.Ways.{beginnings, is_front}
use Rattle.profile_model.proofs.OrderLemmas.{lists_apart}
use Rattle.profile_model.proofs.OrderedLemmas.{Above, only_ordered_is_in_order}
use Rattle.profile_lists.specs.Rows.{shared}

-- the orders of lists
pub lists_tell_apart : {T : Type 0} (cmp : T → T → Ordering) → TellsApart cmp → TellsApart (slice_cmp cmp)
lists_tell_apart cmp t = record { total = lists_total t.total; apart = lists_apart cmp t.apart }

pub equal_from_same : (r : Ordering) → is_eq r ≡ true → r ≡ Equal
equal_from_same Less e = absurd (true≢false (sym e))
equal_from_same Equal e = refl
equal_from_same Greater e = absurd (true≢false (sym e))

-- what is not behind y, which is before z, is before z
pub before_next : {T : Type 0} (cmp : T → T → Ordering) → IsTotalOrder cmp → (x y z : T) → is_gt (cmp x y) ≡ false → cmp y z ≡ Less → cmp x z ≡ Less
before_next cmp o x y z not_behind less =
    elim (cmp x y) as (λ r. cmp x y ≡ r → is_gt r ≡ false → cmp x z ≡ Less) [
      | Less ↦ λ e _. o.trans x y z e less
      | Equal ↦ λ e _. o.congr x y z e ∙ less
      | Greater ↦ λ _ n. absurd (true≢false n)
    ] refl not_behind

pub above_from : {T : Type 0} (cmp : T → T → Ordering) → IsTotalOrder cmp → (x y : T) (items : List T) → is_gt (cmp x y) ≡ false → Above cmp y items → Above cmp x items
above_from cmp o x y [] n above = tt
above_from cmp o x y (z ∷ items) n above = (before_next cmp o x y z n above.0, above_from cmp o x y items n above.1)

-- a front is not behind what begins with it
pub front_not_behind : {T : Type 0} (cmp : T → T → Ordering) (x w : List T) → is_front (eq_by_cmp cmp) x w ≡ true → is_gt (slice_cmp cmp x w) ≡ false
front_not_behind cmp [] [] e = refl
front_not_behind cmp [] (t ∷ w) e = refl
front_not_behind cmp (s ∷ x) [] e = absurd (true≢false (sym e))
front_not_behind cmp (s ∷ x) (t ∷ w) e =
    let same : cmp s t ≡ Equal = equal_from_same (cmp s t) (and_first (is_eq (cmp s t)) (is_front (eq_by_cmp cmp) x w) e) in
    ap (λ r. is_gt (ordering_then r (slice_cmp cmp x w))) same ∙ front_not_behind cmp x w (and_second (is_eq (cmp s t)) (is_front (eq_by_cmp cmp) x w) e)

-- the beginnings of a list that another has not
abbrev pub fresh : {T : Type 0} → (T → T → Bool) → List T → List T → List (List T)
fresh same [] w = beginnings w
fresh same (s ∷ a) [] = []
fresh same (s ∷ a) (t ∷ b) = cond (same s t) (map (λ x. t ∷ x) (fresh same a b)) (beginnings (t ∷ b))

drop-map : {S T : Type 0} (f : S → T) (k : ℕ) (xs : List S) → drop k (map f xs) ≡ map f (drop k xs)
drop-map f zero xs = refl
drop-map f (suc k) [] = refl
drop-map f (suc k) (x ∷ xs) = drop-map f k xs

pub fresh_is_drop : {T : Type 0} (same : T → T → Bool) (a w : List T) → drop (shared same a w) (beginnings w) ≡ fresh same a w
fresh_is_drop same [] w = refl
fresh_is_drop same (s ∷ a) [] = refl
fresh_is_drop same (s ∷ a) (t ∷ b) =
    elim (same s t) as (λ e. drop (cond e (suc (shared same a b)) 0) (beginnings (t ∷ b)) ≡ cond e (map (λ x. t ∷ x) (fresh same a b)) (beginnings (t ∷ b))) [
      | true ↦ drop-map (λ x. t ∷ x) (shared same a b) (beginnings b) ∙ ap (map (λ x. t ∷ x)) (fresh_is_drop same a b)
      | false ↦ refl
    ]

-- facts of all of a list
pub all_map : {S T : Type 0} (P : T → Type 0) (f : S → T) (xs : List S) → AllByRecursion (λ x. P (f x)) xs → AllByRecursion P (map f xs)
all_map P f [] all = tt
all_map P f (x ∷ xs) all = (all.0, all_map P f xs all.1)

-- beginnings have a first item
pub beginnings_behind_none : {T : Type 0} (cmp : T → T → Ordering) (w : List T) → Above (slice_cmp cmp) [] (beginnings w)
beginnings_behind_none cmp [] = tt
beginnings_behind_none cmp (s ∷ w) = (refl, all_map (λ x. slice_cmp cmp [] x ≡ Less) (λ x. s ∷ x) (beginnings w) (all_then (λ x. slice_cmp cmp [] x ≡ Less) (λ x. slice_cmp cmp [] (s ∷ x) ≡ Less) (λ x _. refl) (beginnings w) (beginnings_behind_none cmp w)))

begun_by : {T : Type 0} (cmp : T → T → Ordering) (s t : T) (a : List T) → cmp s t ≡ Less → (w : List T) → Above (slice_cmp cmp) (s ∷ a) (beginnings (t ∷ w))
begun_by cmp s t a less w = (
  ap (λ r. ordering_then r (slice_cmp cmp a [])) less,
  all_map (λ x. slice_cmp cmp (s ∷ a) x ≡ Less) (λ x. t ∷ x) (beginnings w)
      (all_then (λ x. slice_cmp cmp [] x ≡ Less) (λ x. slice_cmp cmp (s ∷ a) (t ∷ x) ≡ Less)
      (λ x _. ap (λ r. ordering_then r (slice_cmp cmp a x)) less) (beginnings w) (beginnings_behind_none cmp w)),
)

-- what is fresh comes behind the list before
pub fresh_above : {T : Type 0} (cmp : T → T → Ordering) (a w : List T) → is_gt (slice_cmp cmp a w) ≡ false → Above (slice_cmp cmp) a (fresh (eq_by_cmp cmp) a w)
fresh_above cmp [] w n = beginnings_behind_none cmp w
fresh_above cmp (s ∷ a) [] n = tt
fresh_above cmp (s ∷ a) (t ∷ b) n =
    elim (cmp s t) as (λ r. cmp s t ≡ r → is_gt (ordering_then r (slice_cmp cmp a b)) ≡ false → Above (slice_cmp cmp) (s ∷ a) (cond (is_eq r) (map (λ x. t ∷ x) (fresh (eq_by_cmp cmp) a b)) (beginnings (t ∷ b)))) [
      | Less ↦ λ e _. begun_by cmp s t a e b
      | Equal ↦ λ e rest.
          all_map (λ x. slice_cmp cmp (s ∷ a) x ≡ Less) (λ x. t ∷ x) (fresh (eq_by_cmp cmp) a b)
          (all_then (λ x. slice_cmp cmp a x ≡ Less) (λ x. slice_cmp cmp (s ∷ a) (t ∷ x) ≡ Less) (λ x h. ap (λ r. ordering_then r (slice_cmp cmp a x)) e ∙ h) (fresh (eq_by_cmp cmp) a b) (fresh_above cmp a b rest))
      | Greater ↦ λ _ rest. absurd (true≢false rest)
    ] refl n

-- beginnings are fronts
pub beginnings_are_fronts : {T : Type 0} (cmp : T → T → Ordering) → IsTotalOrder cmp → (w : List T) → AllByRecursion (λ x. is_front (eq_by_cmp cmp) x w ≡ true) (beginnings w)
beginnings_are_fronts cmp o [] = tt
beginnings_are_fronts cmp o (t ∷ w) = (
  ap (λ r. is_eq r && true) (tied_itself o t),
  all_map (λ x. is_front (eq_by_cmp cmp) x (t ∷ w) ≡ true) (λ x. t ∷ x) (beginnings w)
      (all_then (λ x. is_front (eq_by_cmp cmp) x w ≡ true) (λ x. is_front (eq_by_cmp cmp) (t ∷ x) (t ∷ w) ≡ true) (λ x h. ap (λ r. is_eq r && is_front (eq_by_cmp cmp) x w) (tied_itself o t) ∙ h) (beginnings w) (beginnings_are_fronts cmp o w)),
)

pub fresh_are_fronts : {T : Type 0} (cmp : T → T → Ordering) → IsTotalOrder cmp → (a w : List T) → AllByRecursion (λ x. is_front (eq_by_cmp cmp) x w ≡ true) (fresh (eq_by_cmp cmp) a w)
fresh_are_fronts cmp o [] w = beginnings_are_fronts cmp o w
fresh_are_fronts cmp o (s ∷ a) [] = tt
fresh_are_fronts cmp o (s ∷ a) (t ∷ b) =
    elim (eq_by_cmp cmp s t) as (λ e. AllByRecursion (λ x. is_front (eq_by_cmp cmp) x (t ∷ b) ≡ true) (cond e (map (λ x. t ∷ x) (fresh (eq_by_cmp cmp) a b)) (beginnings (t ∷ b)))) [
      | true ↦ all_map (λ x. is_front (eq_by_cmp cmp) x (t ∷ b) ≡ true) (λ x. t ∷ x) (fresh (eq_by_cmp cmp) a b)
          (all_then (λ x. is_front (eq_by_cmp cmp) x b ≡ true) (λ x. is_front (eq_by_cmp cmp) (t ∷ x) (t ∷ b) ≡ true) (λ x h. ap (λ r. is_eq r && is_front (eq_by_cmp cmp) x b) (tied_itself o t) ∙ h) (fresh (eq_by_cmp cmp) a b) (fresh_are_fronts cmp o a b))
      | false ↦ beginnings_are_fronts cmp o (t ∷ b)
    ]

-- what is fresh is no front of the list before
not_front_of_none : {T : Type 0} (cmp : T → T → Ordering) (x : List T) → slice_cmp cmp [] x ≡ Less → is_front (eq_by_cmp cmp) x [] ≡ false
not_front_of_none cmp [] less = cc
not_front_of_none cmp (s ∷ x) less = refl

not_same_back : {T : Type 0} (cmp : T → T → Ordering) → IsTotalOrder cmp → (s t : T) → eq_by_cmp cmp s t ≡ false → eq_by_cmp cmp t s ≡ false
not_same_back cmp o s t e =
    elim (cmp s t) as (λ r. cmp s t ≡ r → is_eq r ≡ false → is_eq (cmp t s) ≡ false) [
      | Less ↦ λ q _. ap is_eq (o.antisymm t s ∙ ap ordering_reverse q)
      | Equal ↦ λ _ n. absurd (true≢false n)
      | Greater ↦ λ q _. ap is_eq (o.antisymm t s ∙ ap ordering_reverse q)
    ] refl e

and_false : (a : Bool) → (a && false) ≡ false
and_false true = refl
and_false false = refl

pub fresh_are_no_fronts : {T : Type 0} (cmp : T → T → Ordering) → IsTotalOrder cmp → (a w : List T) → AllByRecursion (λ x. is_front (eq_by_cmp cmp) x a ≡ false) (fresh (eq_by_cmp cmp) a w)
fresh_are_no_fronts cmp o [] w = all_then (λ x. slice_cmp cmp [] x ≡ Less) (λ x. is_front (eq_by_cmp cmp) x [] ≡ false) (not_front_of_none cmp) (beginnings w) (beginnings_behind_none cmp w)
fresh_are_no_fronts cmp o (s ∷ a) [] = tt
fresh_are_no_fronts cmp o (s ∷ a) (t ∷ b) =
    elim (eq_by_cmp cmp s t) as (λ e. eq_by_cmp cmp s t ≡ e → AllByRecursion (λ x. is_front (eq_by_cmp cmp) x (s ∷ a) ≡ false) (cond e (map (λ x. t ∷ x) (fresh (eq_by_cmp cmp) a b)) (beginnings (t ∷ b)))) [
      | true ↦ λ _. all_map (λ x. is_front (eq_by_cmp cmp) x (s ∷ a) ≡ false) (λ x. t ∷ x) (fresh (eq_by_cmp cmp) a b)
          (all_then (λ x. is_front (eq_by_cmp cmp) x a ≡ false) (λ x. is_front (eq_by_cmp cmp) (t ∷ x) (s ∷ a) ≡ false) (λ x h. ap (λ v. eq_by_cmp cmp t s && v) h ∙ and_false (eq_by_cmp cmp t s)) (fresh (eq_by_cmp cmp) a b) (fresh_are_no_fronts cmp o a b))
      | false ↦ λ e.
          let n : eq_by_cmp cmp t s ≡ false = not_same_back cmp o s t e in (
            ap (λ v. v && is_front (eq_by_cmp cmp) [] a) n,
            all_map (λ x. is_front (eq_by_cmp cmp) x (s ∷ a) ≡ false) (λ x. t ∷ x) (beginnings b)
                (all_then (λ x. slice_cmp cmp [] x ≡ Less) (λ x. is_front (eq_by_cmp cmp) (t ∷ x) (s ∷ a) ≡ false) (λ x _. ap (λ v. v && is_front (eq_by_cmp cmp) x a) n) (beginnings b) (beginnings_behind_none cmp b)),
          )
    ] refl

-- what is fresh ascends
above_consed : {T : Type 0} (cmp : T → T → Ordering) → IsTotalOrder cmp → (t : T) (x : List T) (xs : List (List T)) → Above (slice_cmp cmp) x xs → Above (slice_cmp cmp) (t ∷ x) (map (λ y. t ∷ y) xs)
above_consed cmp o t x [] above = tt
above_consed cmp o t x (y ∷ xs) above = (ap (λ r. ordering_then r (slice_cmp cmp x y)) (tied_itself o t) ∙ above.0, above_consed cmp o t x xs above.1)

sorted_consed : {T : Type 0} (cmp : T → T → Ordering) → IsTotalOrder cmp → (t : T) (xs : List (List T)) → IsStrictlySortedBy (slice_cmp cmp) xs → IsStrictlySortedBy (slice_cmp cmp) (map (λ y. t ∷ y) xs)
unfolding IsStrictlySortedBy
sorted_consed cmp o t [] sorted = tt
sorted_consed cmp o t (x ∷ xs) sorted = (above_consed cmp o t x xs sorted.0, sorted_consed cmp o t xs sorted.1)

beginnings_ascend : {T : Type 0} (cmp : T → T → Ordering) → IsTotalOrder cmp → (w : List T) → IsStrictlySortedBy (slice_cmp cmp) (beginnings w)
unfolding IsStrictlySortedBy
beginnings_ascend cmp o [] = tt
beginnings_ascend cmp o (t ∷ w) = (above_consed cmp o t [] (beginnings w) (beginnings_behind_none cmp w), sorted_consed cmp o t (beginnings w) (beginnings_ascend cmp o w))

fresh_ascend : {T : Type 0} (cmp : T → T → Ordering) → IsTotalOrder cmp → (a w : List T) → IsStrictlySortedBy (slice_cmp cmp) (fresh (eq_by_cmp cmp) a w)
unfolding IsStrictlySortedBy
fresh_ascend cmp o [] w = beginnings_ascend cmp o w
fresh_ascend cmp o (s ∷ a) [] = tt
fresh_ascend cmp o (s ∷ a) (t ∷ b) =
    elim (eq_by_cmp cmp s t) as (λ e. IsStrictlySortedBy (slice_cmp cmp) (cond e (map (λ x. t ∷ x) (fresh (eq_by_cmp cmp) a b)) (beginnings (t ∷ b)))) [
      | true ↦ sorted_consed cmp o t (fresh (eq_by_cmp cmp) a b) (fresh_ascend cmp o a b)
      | false ↦ beginnings_ascend cmp o (t ∷ b)
    ]

-- lists that do not fall, from a first one on
abbrev pub Ascending : {T : Type 0} → (T → T → Ordering) → List T → List (List T) → Type 0
Ascending cmp a [] = Unit {0}
Ascending cmp a (w ∷ ws) = (is_gt (slice_cmp cmp a w) ≡ false) × Ascending cmp w ws

-- the beginnings of lists that come behind one, each where it is new
abbrev pub fronts : {T : Type 0} → (T → T → Bool) → List T → List (List T) → List (List T)
fronts same a [] = []
fronts same a (w ∷ ws) = fresh same a w ++ fronts same w ws

pub fronts_above : {T : Type 0} (cmp : T → T → Ordering) → IsTotalOrder cmp → (a : List T) (ws : List (List T)) → Ascending cmp a ws → Above (slice_cmp cmp) a (fronts (eq_by_cmp cmp) a ws)
fronts_above cmp o a [] up = tt
fronts_above cmp o a (w ∷ ws) up =
    all_append (λ x. slice_cmp cmp a x ≡ Less) (fresh (eq_by_cmp cmp) a w) (fronts (eq_by_cmp cmp) w ws)
    (fresh_above cmp a w up.0)
    (above_from (slice_cmp cmp) (lists_total o) a w (fronts (eq_by_cmp cmp) w ws) up.0 (fronts_above cmp o w ws up.1))

sorted_append : {T : Type 0} (cmp : T → T → Ordering) (xs ys : List T) → IsStrictlySortedBy cmp xs → IsStrictlySortedBy cmp ys → AllByRecursion (λ x. Above cmp x ys) xs → IsStrictlySortedBy cmp (xs ++ ys)
unfolding IsStrictlySortedBy
sorted_append cmp [] ys s o above = o
sorted_append cmp (x ∷ xs) ys s o above = (all_append (λ y. cmp x y ≡ Less) xs ys s.0 above.0, sorted_append cmp xs ys s.1 o above.1)

fronts_ascend : {T : Type 0} (cmp : T → T → Ordering) → IsTotalOrder cmp → (a : List T) (ws : List (List T)) → Ascending cmp a ws → IsStrictlySortedBy (slice_cmp cmp) (fronts (eq_by_cmp cmp) a ws)
unfolding IsStrictlySortedBy
fronts_ascend cmp o a [] up = tt
fronts_ascend cmp o a (w ∷ ws) up =
    sorted_append (slice_cmp cmp) (fresh (eq_by_cmp cmp) a w) (fronts (eq_by_cmp cmp) w ws) (fresh_ascend cmp o a w) (fronts_ascend cmp o w ws up.1)
    (all_then (λ x. is_front (eq_by_cmp cmp) x w ≡ true) (λ x. Above (slice_cmp cmp) x (fronts (eq_by_cmp cmp) w ws))
    (λ x h. above_from (slice_cmp cmp) (lists_total o) x w (fronts (eq_by_cmp cmp) w ws) (front_not_behind cmp x w h) (fronts_above cmp o w ws up.1))
    (fresh (eq_by_cmp cmp) a w) (fresh_are_fronts cmp o a w))

-- which beginnings there are
has-append : {T : Type 0} (cmp : T → T → Ordering) (x : T) (xs ys : List T) → has cmp x (xs ++ ys) ≡ (has cmp x xs || has cmp x ys)
has-append cmp x [] ys = refl
has-append cmp x (y ∷ xs) ys = ap (λ b. eq_by_cmp cmp x y || b) (has-append cmp x xs ys) ∙ sym (or_assoc (eq_by_cmp cmp x y) (has cmp x xs) (has cmp x ys))

has_none : {T : Type 0} (cmp : T → T → Ordering) (t : T) (xs : List (List T)) → has (slice_cmp cmp) [] (map (λ y. t ∷ y) xs) ≡ false
has_none cmp t [] = refl
has_none cmp t (x ∷ xs) = has_none cmp t xs

then_same : (r s : Ordering) → is_eq (ordering_then r s) ≡ (is_eq r && is_eq s)
then_same Less s = refl
then_same Equal s = refl
then_same Greater s = refl

and_or : (a b c : Bool) → ((a && b) || (a && c)) ≡ (a && (b || c))
and_or true b c = refl
and_or false b c = refl

has_consed : {T : Type 0} (cmp : T → T → Ordering) (y t : T) (x : List T) (xs : List (List T)) → has (slice_cmp cmp) (y ∷ x) (map (λ z. t ∷ z) xs) ≡ (eq_by_cmp cmp y t && has (slice_cmp cmp) x xs)
has_consed cmp y t x [] = sym (and_false (eq_by_cmp cmp y t))
has_consed cmp y t x (z ∷ xs) =
    (λ i. then_same (cmp y t) (slice_cmp cmp x z) i || has_consed cmp y t x xs i)
    ∙ and_or (eq_by_cmp cmp y t) (eq_by_cmp (slice_cmp cmp) x z) (has (slice_cmp cmp) x xs)

or_left : (u p f b : Bool) → (p || f) ≡ (p || b) → ((u || p) || f) ≡ ((u || p) || (u || b))
or_left true p f b e = refl
or_left false p f b e = e

and_both : (k v w : Bool) (p f : Bool) → (v || f) ≡ (v || w) → ((k && v) || (k && f)) ≡ ((k && v) || (k && w))
and_both true v w p f e = e
and_both false v w p f e = refl

beginnings_has : {T : Type 0} (cmp : T → T → Ordering) (y t : T) (x w : List T) → has (slice_cmp cmp) (y ∷ x) (beginnings (t ∷ w)) ≡ (eq_by_cmp cmp y t && (eq_by_cmp (slice_cmp cmp) x [] || has (slice_cmp cmp) x (beginnings w)))
beginnings_has cmp y t x w =
    (λ i. then_same (cmp y t) (slice_cmp cmp x []) i || has_consed cmp y t x (beginnings w) i)
    ∙ and_or (eq_by_cmp cmp y t) (eq_by_cmp (slice_cmp cmp) x []) (has (slice_cmp cmp) x (beginnings w))

-- what a list before has or is fresh, it has or the list has
fresh_or_before : {T : Type 0} (cmp : T → T → Ordering) → TellsApart cmp → (x a w : List T) → (has (slice_cmp cmp) x (beginnings a) || has (slice_cmp cmp) x (fresh (eq_by_cmp cmp) a w)) ≡ (has (slice_cmp cmp) x (beginnings a) || has (slice_cmp cmp) x (beginnings w))
fresh_or_before cmp o x [] w = refl
fresh_or_before cmp o x (s ∷ a) [] = refl
fresh_or_before cmp o [] (s ∷ a) (t ∷ b) =
    elim (eq_by_cmp cmp s t) as (λ e. (has (slice_cmp cmp) [] (beginnings (s ∷ a)) || has (slice_cmp cmp) [] (cond e (map (λ x. t ∷ x) (fresh (eq_by_cmp cmp) a b)) (beginnings (t ∷ b)))) ≡ (has (slice_cmp cmp) [] (beginnings (s ∷ a)) || has (slice_cmp cmp) [] (beginnings (t ∷ b)))) [
      | true ↦ ap (λ v. has (slice_cmp cmp) [] (beginnings (s ∷ a)) || v) (has_none cmp t (fresh (eq_by_cmp cmp) a b) ∙ sym (has_none cmp t (beginnings b)))
      | false ↦ refl
    ]
fresh_or_before cmp o (y ∷ x) (s ∷ a) (t ∷ b) =
    elim (cmp s t) as (λ r. cmp s t ≡ r → (has (slice_cmp cmp) (y ∷ x) (beginnings (s ∷ a)) || has (slice_cmp cmp) (y ∷ x) (cond (is_eq r) (map (λ z. t ∷ z) (fresh (eq_by_cmp cmp) a b)) (beginnings (t ∷ b)))) ≡ (has (slice_cmp cmp) (y ∷ x) (beginnings (s ∷ a)) || has (slice_cmp cmp) (y ∷ x) (beginnings (t ∷ b)))) [
      | Less ↦ λ _. refl
      | Equal ↦ λ e.
          let here : s ≡ t = o.apart s t e in
          let u = eq_by_cmp (slice_cmp cmp) x [] in
          let p = has (slice_cmp cmp) x (beginnings a) in
          let f = has (slice_cmp cmp) x (fresh (eq_by_cmp cmp) a b) in
          let v = has (slice_cmp cmp) x (beginnings b) in
          let k = eq_by_cmp cmp y t in
          let first : has (slice_cmp cmp) (y ∷ x) (beginnings (s ∷ a)) ≡ (k && (u || p)) = beginnings_has cmp y s x a ∙ ap (λ z. eq_by_cmp cmp y z && (u || p)) here in
          let left : (has (slice_cmp cmp) (y ∷ x) (beginnings (s ∷ a)) || has (slice_cmp cmp) (y ∷ x) (map (λ z. t ∷ z) (fresh (eq_by_cmp cmp) a b))) ≡ ((k && (u || p)) || (k && f)) = λ i. first i || has_consed cmp y t x (fresh (eq_by_cmp cmp) a b) i in
          let right : (has (slice_cmp cmp) (y ∷ x) (beginnings (s ∷ a)) || has (slice_cmp cmp) (y ∷ x) (beginnings (t ∷ b))) ≡ ((k && (u || p)) || (k && (u || v))) = λ i. first i || beginnings_has cmp y t x b i in
          left ∙ and_both k (u || p) (u || v) p f (or_left u p f v (fresh_or_before cmp o x a b)) ∙ sym right
      | Greater ↦ λ _. refl
    ] refl

or_through : (p f b r q : Bool) → (p || f) ≡ (p || b) → (b || r) ≡ (b || q) → (p || (f || r)) ≡ (p || (b || q))
or_through true f b r q e d = refl
or_through false f b r q e d = ap (λ v. v || r) e ∙ d

fronts_or_before : {T : Type 0} (cmp : T → T → Ordering) → TellsApart cmp → (x a : List T) (ws : List (List T)) → (has (slice_cmp cmp) x (beginnings a) || has (slice_cmp cmp) x (fronts (eq_by_cmp cmp) a ws)) ≡ (has (slice_cmp cmp) x (beginnings a) || has (slice_cmp cmp) x (flat_map beginnings ws))
fronts_or_before cmp o x a [] = refl
fronts_or_before cmp o x a (w ∷ ws) =
    ap (λ v. has (slice_cmp cmp) x (beginnings a) || v) (has-append (slice_cmp cmp) x (fresh (eq_by_cmp cmp) a w) (fronts (eq_by_cmp cmp) w ws))
    ∙ or_through (has (slice_cmp cmp) x (beginnings a)) (has (slice_cmp cmp) x (fresh (eq_by_cmp cmp) a w)) (has (slice_cmp cmp) x (beginnings w)) (has (slice_cmp cmp) x (fronts (eq_by_cmp cmp) w ws)) (has (slice_cmp cmp) x (flat_map beginnings ws))
    (fresh_or_before cmp o x a w) (fronts_or_before cmp o x w ws)
    ∙ sym (ap (λ v. has (slice_cmp cmp) x (beginnings a) || v) (has-append (slice_cmp cmp) x (beginnings w) (flat_map beginnings ws)))

-- the fronts of lists in order are their beginnings in order
pub fronts_are_ordered : {T : Type 0} (cmp : T → T → Ordering) → TellsApart cmp → (ws : List (List T)) → Ascending cmp [] ws → fronts (eq_by_cmp cmp) [] ws ≡ ordered (slice_cmp cmp) (flat_map beginnings ws)
fronts_are_ordered cmp o ws up =
    only_ordered_is_in_order (slice_cmp cmp) (lists_tell_apart cmp o) (flat_map beginnings ws) (fronts (eq_by_cmp cmp) [] ws)
    (record { ascending = fronts_ascend cmp o.total [] ws up; same = λ x. fronts_or_before cmp o x [] ws })

-- a list between two that have a front has it too
pub between_has_front : {T : Type 0} (cmp : T → T → Ordering) → TellsApart cmp → (x a b c : List T) → is_front (eq_by_cmp cmp) x a ≡ true → is_front (eq_by_cmp cmp) x c ≡ true → is_gt (slice_cmp cmp a b) ≡ false → is_gt (slice_cmp cmp b c) ≡ false → is_front (eq_by_cmp cmp) x b ≡ true
between_has_front cmp o [] a b c fa fc ab bc = refl
between_has_front cmp o (s ∷ x) [] b c fa fc ab bc = absurd (true≢false (sym fa))
between_has_front cmp o (s ∷ x) (t ∷ a) b [] fa fc ab bc = absurd (true≢false (sym fc))
between_has_front cmp o (s ∷ x) (t ∷ a) [] (u ∷ c) fa fc ab bc = absurd (true≢false ab)
between_has_front cmp o (s ∷ x) (t ∷ a) (v ∷ b) (u ∷ c) fa fc ab bc =
    let st : t ≡ s = sym (o.apart s t (equal_from_same (cmp s t) (and_first (eq_by_cmp cmp s t) (is_front (eq_by_cmp cmp) x a) fa))) in
    let su : u ≡ s = sym (o.apart s u (equal_from_same (cmp s u) (and_first (eq_by_cmp cmp s u) (is_front (eq_by_cmp cmp) x c) fc))) in
    let sa : is_front (eq_by_cmp cmp) x a ≡ true = and_second (eq_by_cmp cmp s t) (is_front (eq_by_cmp cmp) x a) fa in
    let sc : is_front (eq_by_cmp cmp) x c ≡ true = and_second (eq_by_cmp cmp s u) (is_front (eq_by_cmp cmp) x c) fc in
    let low : is_gt (ordering_then (cmp s v) (slice_cmp cmp a b)) ≡ false = subst (λ z. is_gt (ordering_then (cmp z v) (slice_cmp cmp a b)) ≡ false) st ab in
    let high : is_gt (ordering_then (cmp v s) (slice_cmp cmp b c)) ≡ false = subst (λ z. is_gt (ordering_then (cmp v z) (slice_cmp cmp b c)) ≡ false) su bc in
    elim (cmp s v) as (λ r. cmp s v ≡ r → is_gt (ordering_then r (slice_cmp cmp a b)) ≡ false → (is_eq r && is_front (eq_by_cmp cmp) x b) ≡ true) [
      | Less ↦ λ e _. absurd (true≢false (sym (ap (λ r. is_gt (ordering_then r (slice_cmp cmp b c))) (o.total.antisymm v s ∙ ap ordering_reverse e)) ∙ high))
      | Equal ↦ λ e rest. between_has_front cmp o x a b c sa sc rest (sym (ap (λ r. is_gt (ordering_then r (slice_cmp cmp b c))) (o.total.antisymm v s ∙ ap ordering_reverse e)) ∙ high)
      | Greater ↦ λ _ rest. absurd (true≢false rest)
    ] refl low
