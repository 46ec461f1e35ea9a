-- The numbers of a profile text, as counts, calls and heads, and the functions that they are of.
use Rattle.std.proofs.Common.{◌≡◌, ◌≢◌, ℕ, zero, suc, ◌<◌, List, [], ◌∷◌, map, length, Option, None, Some, All, refl, sym, ap, subst, ◌∙◌, arith}
use Rattle.std.specs.Prelude.{slice_get}
use Rattle.std.specs.List.{AllByRecursion, cons_option, filter_map}
use Rattle.std.specs.Option.{option_map}
use Rattle.std.proofs.lemmas.List.Elements.{All-from_recursion, recursion_from_All}
use Rattle.std.proofs.lemmas.List.Kept.{AllPairs-cons}
use Rattle.key_types.specs.declared.key.Key.{Key}
use Rattle.profile_laws.specs.Once.{StandOnce}
use Rattle.profile_lists.specs.declared.pairs.Call.{Call}
use Rattle.profile_model.specs.Spelled.{Number, as_call, as_count, as_head, profile_by}
use Rattle.profile_model.specs.Ways.{Way}
use Rattle.profile_text.specs.Draft.{IsGivenItem, IsGivenWhat, number_told, what_told}
use Rattle.profile_text.specs.declared.item.Item.{Item}
use Rattle.profile_text.specs.declared.item.What.{What}
use Rattle.profile_text.specs.declared.item.What.TheVariants.{Head, Count, Target}
use Rattle.profile_tree.proofs.SumLemmas.{all_to_each, given_among}
use Rattle.profile_tree.specs.Known.{HasNames, IsGiven, called_from}
use Rattle.profile_tree.specs.Said.{stated, way_at}
use Rattle.profile_tree.specs.Stated.{AreStated, AreSummed}
use Rattle.profile_tree.specs.Steps.{name_at}
use Rattle.profile_tree.specs.declared.head.Head.{Head as Entries}
use Rattle.profile_tree.specs.declared.key_count.KeyCount.{KeyCount}
use Rattle.profile_text.specs.Numbers.{AreNumbersOf, call_by, call_in, count_by, count_in, counted, head_by, head_in, root_at, root_of_given}
pub use Rattle.list_lemmas.proofs.Each.{all_then as all_weaker}

-- ---- what is kept of a list

-- what each item gives, where it gives something, holds of all that are given
kept_all : {S T : Type 0} (f : S → Option T) (P : T → Type 0) (xs : List S) → AllByRecursion (λ x. (y : T) → f x ≡ Some y → P y) xs → AllByRecursion P (filter_map f xs)
kept_all f P [] all = tt
kept_all {S} {T} f P (x ∷ xs) all = by (f x) all.0 (kept_all f P xs all.1)
  where
    by : (o : Option T) → ((y : T) → o ≡ Some y → P y) → AllByRecursion P (filter_map f xs) → AllByRecursion P (cons_option o (filter_map f xs))
    by None here rest = rest
    by (Some y) here rest = (here y refl, rest)

-- where what was told of two items is the same only where the items tell of the same, each stands once
kept_once : {S T U V : Type 0} (f : S → Option T) (what : S → U) (tell : T → V)
    → ((x y : S) (a b : T) → f x ≡ Some a → f y ≡ Some b → tell a ≡ tell b → what x ≡ what y)
    → (xs : List S) → StandOnce what xs → StandOnce tell (filter_map f xs)
kept_once f what tell same [] once = λ i j d less within. absurd (omega (arith, within))
kept_once {S} {T} f what tell same (x ∷ xs) once = by (f x) refl (kept_once f what tell same xs (λ i j d less within. once (suc i) (suc j) d (omega (arith, less)) (omega (arith, within))))
  where
    others : AllByRecursion (λ y. what x ≢ what y) xs
    others = recursion_from_All (λ y. what x ≢ what y) xs (λ k d low. once 0 (suc k) d (omega arith) (omega (arith, low)))

    by : (o : Option T) → f x ≡ o → StandOnce tell (filter_map f xs) → StandOnce tell (cons_option o (filter_map f xs))
    by None e rest = rest
    by (Some a) e rest =
        AllPairs-cons (λ b c. tell b ≢ tell c) a (filter_map f xs)
        (All-from_recursion (λ b. tell a ≢ tell b) (filter_map f xs)
        (kept_all f (λ b. tell a ≢ tell b) xs (all_weaker (λ y. what x ≢ what y) (λ y. (b : T) → f y ≡ Some b → tell a ≢ tell b) (λ y apart b g told. apart (same x y a b e g told)) xs others))) rest

-- ---- each of the three stands once

count_same : (v w : What) (s t : ℕ) (a b : KeyCount) → count_by v s ≡ Some a → count_by w t ≡ Some b → a.key.0 ≡ b.key.0 → v ≡ w
count_same (Count k) (Count l) s t a b e g same =
    let one : record { key = k; times = s } ≡ a = cc in
    let two : record { key = l; times = t } ≡ b = cc in
    let number : k.0 ≡ l.0 = ap (λ (c : KeyCount). c.key.0) one ∙ same ∙ sym (ap (λ (c : KeyCount). c.key.0) two) in
    λ i. Count (record { 0 = number i })
count_same (Head n) w s t a b e g same = absurd cc
count_same (Target k n) w s t a b e g same = absurd cc
count_same (Count k) (Head n) s t a b e g same = absurd cc
count_same (Count k) (Target l n) s t a b e g same = absurd cc

call_same : (v w : What) (s t : ℕ) (a b : Call) → call_by v s ≡ Some a → call_by w t ≡ Some b → called_from a ≡ called_from b → v ≡ w
call_same (Target k n) (Target l m) s t a b e g same =
    let one : record { key = k; callee = n; times = s } ≡ a = cc in
    let two : record { key = l; callee = m; times = t } ≡ b = cc in
    let pair : (k.0, n.0) ≡ (l.0, m.0) = ap called_from one ∙ same ∙ sym (ap called_from two) in
    λ i. Target (record { 0 = (pair i).0 }) (record { 0 = (pair i).1 })
call_same (Head n) w s t a b e g same = absurd cc
call_same (Count k) w s t a b e g same = absurd cc
call_same (Target k n) (Head m) s t a b e g same = absurd cc
call_same (Target k n) (Count l) s t a b e g same = absurd cc

head_same : (v w : What) (s t : ℕ) (a b : Entries) → head_by v s ≡ Some a → head_by w t ≡ Some b → a.name.0 ≡ b.name.0 → v ≡ w
head_same (Head n) (Head m) s t a b e g same =
    let one : record { name = n; times = s } ≡ a = cc in
    let two : record { name = m; times = t } ≡ b = cc in
    let number : n.0 ≡ m.0 = ap (λ (h : Entries). h.name.0) one ∙ same ∙ sym (ap (λ (h : Entries). h.name.0) two) in
    λ i. Head (record { 0 = number i })
head_same (Count k) w s t a b e g same = absurd cc
head_same (Target k n) w s t a b e g same = absurd cc
head_same (Head n) (Count k) s t a b e g same = absurd cc
head_same (Head n) (Target k m) s t a b e g same = absurd cc

counts_once : (items : List Item) → StandOnce (λ item. item.what) items → StandOnce (λ (count : KeyCount). count.key.0) (filter_map count_in items)
counts_once items once = kept_once count_in (λ (item : Item). item.what) (λ (count : KeyCount). count.key.0) (λ x y a b e g same. count_same x.what y.what x.times y.times a b e g same) items once

calls_once : (items : List Item) → StandOnce (λ item. item.what) items → StandOnce called_from (filter_map call_in items)
calls_once items once = kept_once call_in (λ (item : Item). item.what) called_from (λ x y a b e g same. call_same x.what y.what x.times y.times a b e g same) items once

heads_once : (items : List Item) → StandOnce (λ item. item.what) items → StandOnce (λ (head : Entries). head.name.0) (filter_map head_in items)
heads_once items once = kept_once head_in (λ (item : Item). item.what) (λ (head : Entries). head.name.0) (λ x y a b e g same. head_same x.what y.what x.times y.times a b e g same) items once

-- ---- and has numbers that were given

count_given : (names keys : ℕ) (v : What) (t : ℕ) (a : KeyCount) → IsGivenWhat names keys v → count_by v t ≡ Some a → a.key.0 < keys
count_given names keys (Count k) t a given e = let one : k.0 ≡ a.key.0 = ap key_of e in omega (arith, one, given)
  where
    key_of : Option KeyCount → ℕ
    key_of None = 0
    key_of (Some c) = c.key.0
count_given names keys (Head n) t a given e = absurd cc
count_given names keys (Target k n) t a given e = absurd cc

call_given : (names keys : ℕ) (v : What) (t : ℕ) (a : Call) → IsGivenWhat names keys v → call_by v t ≡ Some a → IsGiven keys names a
call_given names keys (Target k n) t a given e =
    let one : k.0 ≡ a.key.0 = ap key_of e in
    let two : n.0 ≡ a.callee.0 = ap callee_of e in (omega (arith, one, given.0), omega (arith, two, given.1))
  where
    key_of : Option Call → ℕ
    key_of None = 0
    key_of (Some c) = c.key.0

    callee_of : Option Call → ℕ
    callee_of None = 0
    callee_of (Some c) = c.callee.0
call_given names keys (Head n) t a given e = absurd cc
call_given names keys (Count k) t a given e = absurd cc

head_given : (names keys : ℕ) (v : What) (t : ℕ) (a : Entries) → IsGivenWhat names keys v → head_by v t ≡ Some a → a.name.0 < names
head_given names keys (Head n) t a given e = let one : n.0 ≡ a.name.0 = ap name_of e in omega (arith, one, given)
  where
    name_of : Option Entries → ℕ
    name_of None = 0
    name_of (Some h) = h.name.0
head_given names keys (Count k) t a given e = absurd cc
head_given names keys (Target k n) t a given e = absurd cc

all_kept : {T : Type 0} (f : Item → Option T) (P : T → Type 0) (names keys : ℕ) → ((item : Item) (a : T) → IsGivenItem names keys item → f item ≡ Some a → P a)
    → (items : List Item) → AllByRecursion (IsGivenItem names keys) items → (kept : List T) → kept ≡ filter_map f items → All P kept
all_kept {T} f P names keys each items given kept is =
    let all : AllByRecursion P (filter_map f items) =
    kept_all f P items (all_weaker (IsGivenItem names keys) (λ item. (a : T) → f item ≡ Some a → P a) (λ item here a e. each item a here e) items given) in
    subst (All P) (sym is) (All-from_recursion P (filter_map f items) all)

counts_given : (names keys : ℕ) (items : List Item) (kept : List KeyCount) → AllByRecursion (IsGivenItem names keys) items → kept ≡ filter_map count_in items → All (λ count. count.key.0 < keys) kept
counts_given names keys items kept given is = all_kept count_in (λ (c : KeyCount). c.key.0 < keys) names keys (λ item a here e. count_given names keys item.what item.times a here e) items given kept is

calls_given : (names keys : ℕ) (items : List Item) (kept : List Call) → AllByRecursion (IsGivenItem names keys) items → kept ≡ filter_map call_in items → All (IsGiven keys names) kept
calls_given names keys items kept given is = all_kept call_in (IsGiven keys names) names keys (λ item a here e. call_given names keys item.what item.times a here e) items given kept is

heads_given : (names keys : ℕ) (items : List Item) (kept : List Entries) → AllByRecursion (IsGivenItem names keys) items → kept ≡ filter_map head_in items → All (λ head. head.name.0 < names) kept
heads_given names keys items kept given is = all_kept head_in (λ (h : Entries). h.name.0 < names) names keys (λ item a here e. head_given names keys item.what item.times a here e) items given kept is

-- ---- so that they are stated

pub items_summed : (names : ℕ) (keys : List Key) (items : List Item) (calls : List Call) (heads : List Entries) → AreNumbersOf names keys items
    → calls ≡ filter_map call_in items → heads ≡ filter_map head_in items → AreSummed names keys calls heads
items_summed names keys items calls heads numbers calls_are heads_are = record {
  given = record {
    key_names = numbers.key_names;
    called = calls_given names (length keys) items calls numbers.given calls_are;
    entered = heads_given names (length keys) items heads numbers.given heads_are;
  };
  calls_once = subst (StandOnce called_from) (sym calls_are) (calls_once items numbers.once);
  heads_once = subst (StandOnce (λ (head : Entries). head.name.0)) (sym heads_are) (heads_once items numbers.once);
}

pub items_stated : (names : ℕ) (keys : List Key) (items : List Item) (counts : List KeyCount) (calls : List Call) (heads : List Entries) → AreNumbersOf names keys items
    → counts ≡ filter_map count_in items → calls ≡ filter_map call_in items → heads ≡ filter_map head_in items → AreStated names keys counts calls heads
items_stated names keys items counts calls heads numbers counts_are calls_are heads_are = record {
  summed = items_summed names keys items calls heads numbers calls_are heads_are;
  counted = counts_given names (length keys) items counts numbers.given counts_are;
  counts_once = subst (StandOnce (λ (count : KeyCount). count.key.0)) (sym counts_are) (counts_once items numbers.once);
}

-- ---- the profile that they state is that of the numbers

module _ (names : List (List ℕ)) (keys : List Key) where
  told_map : {S T : Type 0} (f : Item → Option S) (g : S → T) (h : Number → Option T) → ((item : Item) → h (number_told names keys item) ≡ option_map g (f item))
      → (items : List Item) → map g (filter_map f items) ≡ filter_map h (map (number_told names keys) items)
  told_map f g h same [] = refl
  told_map {S} {T} f g h same (x ∷ xs) = by (f x) (filter_map f xs) ∙ (λ i. cons_option (sym (same x) i) (told_map f g h same xs i))
    where
      by : (o : Option S) (ys : List S) → map g (cons_option o ys) ≡ cons_option (option_map g o) (map g ys)
      by None ys = refl
      by (Some y) ys = refl

  count_said : KeyCount → Way × ℕ
  count_said count = (way_at names keys count.key.0, count.times)

  call_said : Call → Way × List ℕ × ℕ
  call_said call = (way_at names keys call.key.0, name_at names call.callee.0, call.times)

  head_said : Entries → List ℕ × ℕ
  head_said head = (name_at names head.name.0, head.times)

  count_told : (v : What) (t : ℕ) → as_count (what_told names keys v) t ≡ option_map count_said (count_by v t)
  unfolding count_said
  count_told (Head n) t = refl
  count_told (Count k) t = refl
  count_told (Target k n) t = refl

  call_told : (v : What) (t : ℕ) → as_call (what_told names keys v) t ≡ option_map call_said (call_by v t)
  unfolding call_said
  call_told (Head n) t = refl
  call_told (Count k) t = refl
  call_told (Target k n) t = refl

  head_told : (v : What) (t : ℕ) → as_head (what_told names keys v) t ≡ option_map head_said (head_by v t)
  unfolding head_said
  head_told (Head n) t = refl
  head_told (Count k) t = refl
  head_told (Target k n) t = refl

  pub stated_is_told : (items : List Item) → stated names keys (filter_map count_in items) (filter_map call_in items) (filter_map head_in items) ≡ counted names keys items
  unfolding profile_by count_said call_said head_said
  stated_is_told items = λ i. record {
    counts = told_map count_in count_said (λ (n : Number). as_count n.what n.times) (λ item. count_told item.what item.times) items i;
    calls = told_map call_in call_said (λ (n : Number). as_call n.what n.times) (λ item. call_told item.what item.times) items i;
    heads = told_map head_in head_said (λ (n : Number). as_head n.what n.times) (λ item. head_told item.what item.times) items i;
  }

-- ---- the function that a number is of

pub item_there : {T : Type 0} (xs : List T) (k : ℕ) → k < length xs → (x : T) × (slice_get xs k ≡ Some x)
item_there [] k low = absurd (omega (arith, low))
item_there (x ∷ xs) zero low = (x, refl)
item_there (x ∷ xs) (suc k) low = item_there xs k (omega (arith, low))

pub root_within : (names : ℕ) (keys : List Key) → All (HasNames names) keys → (k : ℕ) → k < length keys → root_at keys k < names
root_within names keys key_names k low =
    let there = item_there keys k low in
    let named = all_to_each (HasNames names) there.0 keys key_names (given_among keys k there.0 there.1) in
    subst (λ o. root_of_given o < names) (sym there.1) named.0
