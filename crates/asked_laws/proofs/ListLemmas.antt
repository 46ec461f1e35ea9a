-- Lists that are made alike of items that are alike.
use Rattle.std.proofs.Common.{◌≡◌, ◌≤◌, ◌<◌, ◌+◌, ℕ, zero, suc, max, Bool, true, false, cond, List, [], ◌∷◌, map, filter, filter_map, length, sum_by, Option, None, Some, refl, sym, ap, subst, ◌∙◌, inl, inr, arith}
use Rattle.std.specs.Prelude.{Contains, count_by, if◌then◌else◌}
use Rattle.std.specs.List.{AllByRecursion, AllZip, cons_option, range_with_len}
use Rattle.std.proofs.lemmas.List.Elements.{All-contains_itself, All-weaker, recursion_from_All}
use Rattle.std.proofs.lemmas.List.Sums.{length-filter, sum_by-cons}
use Rattle.profile_laws.proofs.TotalLemmas.{Among}
pub use Rattle.profile_laws.proofs.TotalLemmas.{filter_same as kept_alike}
use Rattle.sample_model.specs.Pairs.{distinct_pairs, pair_lt, same_pair, with_pair}
use Rattle.output_model.specs.Sampled.{largest}

-- ---- all items

-- what holds of each item that a list contains holds of all
pub all_of : {X : Type 0} (P : X → Type 0) (xs : List X) → ((x : X) → Contains xs x → P x) → AllByRecursion P xs
all_of P xs holds = recursion_from_All P xs (All-weaker (Contains xs) P holds xs (All-contains_itself xs))

pub zip_within : {A B : Type 0} (P : A → Type 0) (R S : A → B → Type 0) → ((x : A) (y : B) → P x → R x y → S x y)
    → (xs : List A) (ys : List B) → AllByRecursion P xs → AllZip R xs ys → AllZip S xs ys
zip_within P R S gives [] [] all is = is
zip_within P R S gives [] (y ∷ ys) all is = absurd is
zip_within P R S gives (x ∷ xs) [] all is = absurd is
zip_within P R S gives (x ∷ xs) (y ∷ ys) all is = (gives x y all.0 is.0, zip_within P R S gives xs ys all.1 is.1)

-- ---- what is found, kept and counted

pub found_alike : {X Y : Type 0} (f g : X → Option Y) (xs : List X) → AllByRecursion (λ x. f x ≡ g x) xs → filter_map f xs ≡ filter_map g xs
found_alike f g [] all = refl
found_alike f g (x ∷ xs) all = λ i. cons_option (all.0 i) (found_alike f g xs all.1 i)

pub counted_alike : {X : Type 0} (f g : X → Bool) (xs : List X) → AllByRecursion (λ x. f x ≡ g x) xs → count_by f xs ≡ count_by g xs
counted_alike f g xs all = sym (length-filter f xs) ∙ ap length (kept_alike f g xs all) ∙ length-filter g xs

pub found_in_range : {Y : Type 0} (f g : ℕ → Option Y) (lo n : ℕ) → ((a : ℕ) → lo ≤ a → a < lo + n → f a ≡ g a)
    → filter_map f (range_with_len lo n) ≡ filter_map g (range_with_len lo n)
found_in_range f g lo zero same = refl
found_in_range f g lo (suc n) same =
    let first : f lo ≡ g lo = same lo (omega arith) (omega arith) in
    let rest : filter_map f (range_with_len (lo + 1) n) ≡ filter_map g (range_with_len (lo + 1) n) =
    found_in_range f g (lo + 1) n (λ a low high. same a (omega (arith, low)) (omega (arith, high))) in
    λ i. cons_option (first i) (rest i)

-- ---- distinct pairs

either_all : {X : Type 0} (P : X → Type 0) (b : Bool) (xs ys : List X) → AllByRecursion P xs → AllByRecursion P ys → AllByRecursion P (if b then xs else ys)
either_all P true xs ys one other = one
either_all P false xs ys one other = other

with_all : (P : ℕ × ℕ → Type 0) (p : ℕ × ℕ) (pairs : List (ℕ × ℕ)) → P p → AllByRecursion P pairs → AllByRecursion P (with_pair p pairs)
with_all P p [] is all = (is, tt)
with_all P p (q ∷ pairs) is all =
    either_all P (pair_lt p q) _ _ (is, all)
    (either_all P (same_pair p q) _ _ all (all.0, with_all P p pairs is all.1))

pub distinct_all : (P : ℕ × ℕ → Type 0) (pairs : List (ℕ × ℕ)) → AllByRecursion P pairs → AllByRecursion P (distinct_pairs pairs)
distinct_all P [] all = tt
distinct_all P (p ∷ pairs) all = with_all P p (distinct_pairs pairs) all.0 (distinct_all P pairs all.1)

-- ---- the largest number of what is kept

largest_more : (w : ℕ → ℕ) (f : ℕ → Bool) (a : ℕ) (xs : List ℕ)
    → largest (map w (filter f (a ∷ xs))) ≡ max (cond (f a) (w a) 0) (largest (map w (filter f xs)))
largest_more w f a xs =
    elim (f a) as (λ b. largest (map w (cond b (a ∷ filter f xs) (filter f xs))) ≡ max (cond b (w a) 0) (largest (map w (filter f xs)))) [
      | true ↦ refl
      | false ↦ above_none (largest (map w (filter f xs)))
    ]
  where
    above_none : (n : ℕ) → n ≡ max 0 n
    above_none n = omega arith

pub largest_alike : (w v : ℕ → ℕ) (f g : ℕ → Bool) (xs : List ℕ) → ((a : ℕ) → cond (f a) (w a) 0 ≡ cond (g a) (v a) 0)
    → largest (map w (filter f xs)) ≡ largest (map v (filter g xs))
largest_alike w v f g [] same = refl
largest_alike w v f g (a ∷ xs) same =
    largest_more w f a xs ∙ (λ i. max (same a i) (largest_alike w v f g xs same i)) ∙ sym (largest_more v g a xs)

pub largest_none : (w : ℕ → ℕ) (f : ℕ → Bool) (xs : List ℕ) → ((a : ℕ) → Among a xs → f a ≡ false) → largest (map w (filter f xs)) ≡ 0
largest_none w f [] none = refl
largest_none w f (a ∷ xs) none =
    largest_more w f a xs ∙ (λ i. max (cond (none a (inl refl) i) (w a) 0) (largest_none w f xs (λ b there. none b (inr there)) i))

-- ---- items of what is found

one_more : {Y : Type 0} (o : Option Y) (y : Y) (ys : List Y) → Among y ys → Among y (cons_option o ys)
one_more None y ys there = there
one_more (Some z) y ys there = inr there

pub among_found : {X Y : Type 0} (f : X → Option Y) (x : X) (y : Y) (xs : List X) → Among x xs → f x ≡ Some y → Among y (filter_map f xs)
among_found f x y [] there is = absurd there
among_found f x y (z ∷ xs) there is = elim there as (λ _. Among y (cons_option (f z) (filter_map f xs))) [
  | inl e ↦ subst (λ o. Among y (cons_option o (filter_map f xs))) (sym is ∙ ap f e) (inl refl)
  | inr r ↦ one_more (f z) y (filter_map f xs) (among_found f x y xs r is)
]

-- ---- sums of what is kept

pub kept_more : {X : Type 0} (test : X → Bool) (times : X → ℕ) (x : X) (xs : List X)
    → sum_by times (filter test (x ∷ xs)) ≡ cond (test x) (times x) 0 + sum_by times (filter test xs)
kept_more test times x xs =
    elim (test x) as (λ b. sum_by times (cond b (x ∷ filter test xs) (filter test xs)) ≡ cond b (times x) 0 + sum_by times (filter test xs)) [
      | true ↦ sum_by-cons times x (filter test xs)
      | false ↦ none_more (sum_by times (filter test xs))
    ]
  where
    none_more : (n : ℕ) → n ≡ 0 + n
    none_more n = omega arith
