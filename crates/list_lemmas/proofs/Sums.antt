-- Sums over lists.
use Rattle.std.proofs.Common.{◌≡◌, ℕ, ◌+◌, Bool, true, false, cond, List, [], ◌∷◌, ◌++◌, filter, map, sum_by, refl, sym, ap, ◌∙◌, arith}
use Rattle.std.proofs.lemmas.List.Elements.{filter-append}
use Rattle.std.proofs.lemmas.List.Sums.{sum_by-append, sum_by-cons}
use Rattle.std.specs.List.{AllByRecursion}

-- over the items that pass a test
pub sum_passing-cons : {X : Type 0} (f : X → ℕ) (p : X → Bool) (x : X) (xs : List X) → sum_by f (filter p (x ∷ xs)) ≡ cond (p x) (f x) 0 + sum_by f (filter p xs)
sum_passing-cons {X} f p x xs = by_test (p x)
  where
    by_test : (t : Bool) → sum_by f (cond t (x ∷ filter p xs) (filter p xs)) ≡ cond t (f x) 0 + sum_by f (filter p xs)
    by_test true = sum_by-cons f x (filter p xs)
    by_test false = omega arith

pub sum_passing : {X : Type 0} (f : X → ℕ) (p : X → Bool) (xs : List X) → sum_by f (filter p xs) ≡ sum_by (λ x. cond (p x) (f x) 0) xs
sum_passing f p [] = refl
sum_passing f p (x ∷ xs) =
    sum_passing-cons f p x xs ∙ ap (λ n. cond (p x) (f x) 0 + n) (sum_passing f p xs) ∙ sym (sum_by-cons (λ x. cond (p x) (f x) 0) x xs)

pub sum_passing-append : {X : Type 0} (f : X → ℕ) (p : X → Bool) (xs ys : List X) → sum_by f (filter p (xs ++ ys)) ≡ sum_by f (filter p xs) + sum_by f (filter p ys)
sum_passing-append f p xs ys = ap (sum_by f) (filter-append p xs ys) ∙ sum_by-append f (filter p xs) (filter p ys)

-- of what is the same, item by item
pub sum_same : {T : Type 0} (f g : T → ℕ) (xs : List T) → AllByRecursion (λ x. f x ≡ g x) xs → sum_by f xs ≡ sum_by g xs
sum_same f g [] all = refl
sum_same f g (x ∷ xs) all = sum_by-cons f x xs ∙ (λ i. all.0 i + sum_same f g xs all.1 i) ∙ sym (sum_by-cons g x xs)

pub map_same : {S T : Type 0} (f g : S → T) (xs : List S) → AllByRecursion (λ x. f x ≡ g x) xs → map f xs ≡ map g xs
map_same f g [] same = refl
map_same f g (x ∷ xs) same = λ i. same.0 i ∷ map_same f g xs same.1 i

pub map_map : {R S T : Type 0} (f : S → T) (g : R → S) (xs : List R) → map f (map g xs) ≡ map (λ x. f (g x)) xs
map_map f g [] = refl
map_map f g (x ∷ xs) = ap (λ ys. f (g x) ∷ ys) (map_map f g xs)
