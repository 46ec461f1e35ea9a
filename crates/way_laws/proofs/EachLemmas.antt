-- What holds of each item of lists that are kept, made or searched item by item.
use Rattle.std.proofs.Common.{Bool, true, false, cond, List, [], ◌∷◌, filter, filter_map, find, map, Option, None, Some}
use Rattle.std.specs.Prelude.{⊤}
use Rattle.std.specs.List.{AllByRecursion, cons_option}

pub either_all : {X : Type 0} (P : X → Type 0) (b : Bool) (xs ys : List X) → AllByRecursion P xs → AllByRecursion P ys → AllByRecursion P (cond b xs ys)
either_all P true xs ys one other = one
either_all P false xs ys one other = other

pub all_filtered : {X : Type 0} (P : X → Type 0) (test : X → Bool) (xs : List X) → AllByRecursion P xs → AllByRecursion P (filter test xs)
all_filtered P test [] all = tt
all_filtered P test (x ∷ xs) all = let rest = all_filtered P test xs all.1 in either_all P (test x) (x ∷ filter test xs) (filter test xs) (all.0, rest) rest

pub all_mapped : {X Y : Type 0} (P : X → Type 0) (Q : Y → Type 0) (f : X → Y) (xs : List X) → ((x : X) → P x → Q (f x)) → AllByRecursion P xs → AllByRecursion Q (map f xs)
all_mapped P Q f [] gives all = tt
all_mapped P Q f (x ∷ xs) gives all = (gives x all.0, all_mapped P Q f xs gives all.1)

-- ---- where there is one

abbrev pub OfSome : {X : Type 0} → (X → Type 0) → Option X → Type 0
OfSome P None = ⊤
OfSome P (Some x) = P x

found_first : {X : Type 0} (P : X → Type 0) (o : Option X) (xs : List X) → OfSome P o → AllByRecursion P xs → AllByRecursion P (cons_option o xs)
found_first P None xs is all = all
found_first P (Some x) xs is all = (is, all)

pub all_found : {X Y : Type 0} (P : Y → Type 0) (f : X → Option Y) (xs : List X) → ((x : X) → OfSome P (f x)) → AllByRecursion P (filter_map f xs)
all_found P f [] gives = tt
all_found P f (x ∷ xs) gives = found_first P (f x) (filter_map f xs) (gives x) (all_found P f xs gives)

pub one_found : {X : Type 0} (P : X → Type 0) (test : X → Bool) (xs : List X) → AllByRecursion P xs → OfSome P (find test xs)
one_found P test [] all = tt
one_found {X} P test (x ∷ xs) all = by (test x) (one_found P test xs all.1)
  where
    by : (b : Bool) → OfSome P (find test xs) → OfSome P (cond b (Some x) (find test xs))
    by true rest = all.0
    by false rest = rest
