-- What stands in a list, item by item.
use Rattle.std.proofs.Common.{◌≡◌, ◌⊎◌, ◌≤◌, ℕ, Bool, true, false, cond, List, [], ◌∷◌, ◌++◌, map, filter, sum_by, refl, sym, ap, subst, ◌∙◌, inl, inr, arith}
use Rattle.std.proofs.lemmas.List.Sums.{sum_by-cons}
use Rattle.std.specs.List.{AllByRecursion, flat_map}

-- what stands in a list
abbrev pub Among : {T : Type 0} → T → List T → Type 0
Among x [] = ⊥
Among x (y ∷ ys) = (x ≡ y) ⊎ Among x ys

pub among_right : {T : Type 0} (x : T) (xs ys : List T) → Among x ys → Among x (xs ++ ys)
among_right x [] ys h = h
among_right x (y ∷ xs) ys h = inr (among_right x xs ys h)

pub among_left : {T : Type 0} (x : T) (xs ys : List T) → Among x xs → Among x (xs ++ ys)
among_left x [] ys h = absurd h
among_left x (y ∷ xs) ys h = elim h as (λ _. (x ≡ y) ⊎ Among x (xs ++ ys)) [ inl e ↦ inl e | inr r ↦ inr (among_left x xs ys r) ]

pub among_either : {T : Type 0} (x : T) (xs ys : List T) → Among x (xs ++ ys) → Among x xs ⊎ Among x ys
among_either x [] ys h = inr h
among_either x (y ∷ xs) ys h = elim h as (λ _. Among x (y ∷ xs) ⊎ Among x ys) [
  | inl e ↦ inl (inl e)
  | inr r ↦ elim (among_either x xs ys r) as (λ _. Among x (y ∷ xs) ⊎ Among x ys) [ inl l ↦ inl (inr l) | inr q ↦ inr q ]
]

pub among_map : {S T : Type 0} (f : S → T) (x : S) (xs : List S) → Among x xs → Among (f x) (map f xs)
among_map f x [] h = absurd h
among_map f x (y ∷ xs) h = elim h as (λ _. (f x ≡ f y) ⊎ Among (f x) (map f xs)) [ inl e ↦ inl (ap f e) | inr r ↦ inr (among_map f x xs r) ]

pub among_map_back : {S T : Type 0} (f : S → T) (y : T) (xs : List S) → Among y (map f xs) → (x : S) × (Among x xs) × (y ≡ f x)
among_map_back f y [] h = absurd h
among_map_back {S} f y (x ∷ xs) h = elim h as (λ _. (z : S) × (Among z (x ∷ xs)) × (y ≡ f z)) [
  | inl e ↦ (x, inl refl, e)
  | inr r ↦ let b = among_map_back f y xs r in (b.0, inr b.1, b.2)
]

pub among_filter : {T : Type 0} (p : T → Bool) (x : T) (xs : List T) → p x ≡ true → Among x xs → Among x (filter p xs)
among_filter p x [] t h = absurd h
among_filter {T} p x (y ∷ xs) t h = elim h as (λ _. Among x (cond (p y) (y ∷ filter p xs) (filter p xs))) [
  | inl e ↦ subst (λ b. Among x (cond b (y ∷ filter p xs) (filter p xs))) (sym t ∙ ap p e) (inl e)
  | inr r ↦ elim (p y) as (λ b. Among x (cond b (y ∷ filter p xs) (filter p xs))) [ true ↦ inr (among_filter p x xs t r) | false ↦ among_filter p x xs t r ]
]

pub among_filter_back : {T : Type 0} (p : T → Bool) (x : T) (xs : List T) → Among x (filter p xs) → (p x ≡ true) × Among x xs
among_filter_back p x [] h = absurd h
among_filter_back p x (y ∷ xs) h =
    elim (p y) as (λ b. p y ≡ b → Among x (cond b (y ∷ filter p xs) (filter p xs)) → (p x ≡ true) × Among x (y ∷ xs)) [
      | true ↦ λ e g. elim g as (λ _. (p x ≡ true) × Among x (y ∷ xs)) [
        | inl q ↦ (ap p q ∙ e, inl q)
        | inr r ↦ let b = among_filter_back p x xs r in (b.0, inr b.1)
      ]
      | false ↦ λ _ g. let b = among_filter_back p x xs g in (b.0, inr b.1)
    ] refl h

pub all_among : {T : Type 0} (P : T → Type 0) (xs : List T) → ((x : T) → Among x xs → P x) → AllByRecursion P xs
all_among P [] f = tt
all_among P (x ∷ xs) f = (f x (inl refl), all_among P xs (λ y h. f y (inr h)))

pub among_all : {T : Type 0} (P : T → Type 0) (x : T) (xs : List T) → AllByRecursion P xs → Among x xs → P x
among_all P x [] all h = absurd h
among_all P x (y ∷ xs) all h = elim h as (λ _. P x) [ inl e ↦ subst P (sym e) all.0 | inr r ↦ among_all P x xs all.1 r ]

pub among_flat : {S T : Type 0} (f : S → List T) (t : T) (s : S) (xs : List S) → Among s xs → Among t (f s) → Among t (flat_map f xs)
among_flat f t s [] among there = absurd among
among_flat f t s (x ∷ xs) among there = elim among as (λ _. Among t (f x ++ flat_map f xs)) [
  | inl e ↦ among_left t (f x) (flat_map f xs) (subst (λ y. Among t (f y)) e there)
  | inr r ↦ among_right t (f x) (flat_map f xs) (among_flat f t s xs r there)
]

pub among_flat_back : {S T : Type 0} (f : S → List T) (t : T) (xs : List S) → Among t (flat_map f xs) → (s : S) × Among s xs × Among t (f s)
among_flat_back f t [] among = absurd among
among_flat_back {S} f t (x ∷ xs) among = elim (among_either t (f x) (flat_map f xs) among) as (λ _. (s : S) × Among s (x ∷ xs) × Among t (f s)) [
  | inl l ↦ (x, inl refl, l)
  | inr r ↦ let found = among_flat_back f t xs r in (found.0, inr found.1, found.2)
]

-- no item is more than a sum
pub part_of_sum : {T : Type 0} (f : T → ℕ) (x : T) (xs : List T) → Among x xs → f x ≤ sum_by f xs
part_of_sum f x [] h = absurd h
part_of_sum f x (y ∷ xs) h = elim h as (λ _. f x ≤ sum_by f (y ∷ xs)) [
  | inl e ↦ omega (arith, sum_by-cons f y xs, ap f e)
  | inr r ↦ omega (arith, sum_by-cons f y xs, part_of_sum f x xs r)
]
