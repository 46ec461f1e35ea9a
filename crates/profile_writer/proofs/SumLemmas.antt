-- Sums over what is made of rows, and over the members that the rows tell of.
use Rattle.std.proofs.Common.{◌≡◌, ℕ, ◌+◌, Bool, cond, List, [], ◌∷◌, sum_by, Option, None, Some, refl, sym, ap, ◌∙◌, inl, inr, zero-add}
use Rattle.std.specs.Prelude.{count_by}
use Rattle.std.specs.List.{All, AllByRecursion, cons_option, filter_map}
use Rattle.std.specs.Option.{option_map_or}
use Rattle.std.proofs.lemmas.List.Elements.{All-from_recursion}
use Rattle.std.proofs.lemmas.List.Sums.{sum_by-cons}
use Rattle.sample_model.specs.declared.pair.Pair.{Pair}
use Rattle.branch_counts.specs.Table.{Tallies, pair_of}
use Rattle.branch_counts.proofs.TallyLemmas.{tables_count_members}
use Rattle.profile_tree.proofs.ListLemmas.{Among, sum_filter}
pub use Rattle.profile_tree.proofs.ListLemmas.{kept_among, kept_from}

-- a sum over what is kept of some items
kept_more : {A B : Type 0} (f : A → Option B) (w : B → ℕ) (o : Option B) (xs : List A) → sum_by w (filter_map f xs) ≡ sum_by (λ x. option_map_or w (f x) 0) xs
    → sum_by w (cons_option o (filter_map f xs)) ≡ option_map_or w o 0 + sum_by (λ x. option_map_or w (f x) 0) xs
kept_more f w None xs rest = rest ∙ sym (zero-add (sum_by (λ x. option_map_or w (f x) 0) xs))
kept_more f w (Some y) xs rest = sum_by-cons w y (filter_map f xs) ∙ ap (λ (n : ℕ). w y + n) rest

pub kept_sum : {A B : Type 0} (f : A → Option B) (w : B → ℕ) (xs : List A) → sum_by w (filter_map f xs) ≡ sum_by (λ x. option_map_or w (f x) 0) xs
kept_sum f w [] = refl
kept_sum f w (x ∷ xs) = kept_more f w (f x) xs (kept_sum f w xs) ∙ sym (sum_by-cons (λ y. option_map_or w (f y) 0) x xs)

-- what all kept items are
pub kept_all : {A B : Type 0} (P : B → Type 0) (f : A → Option B) (xs : List A) → ((x : A) → Among x xs → (y : B) → f x ≡ Some y → P y) → All P (filter_map f xs)
kept_all {A} {B} P f xs each = All-from_recursion P (filter_map f xs) (by_item xs each)
  where
    one : (o : Option B) (rest : List B) → ((y : B) → o ≡ Some y → P y) → AllByRecursion P rest → AllByRecursion P (cons_option o rest)
    one None rest this more = more
    one (Some y) rest this more = (this y refl, more)

    by_item : (ys : List A) → ((x : A) → Among x ys → (y : B) → f x ≡ Some y → P y) → AllByRecursion P (filter_map f ys)
    by_item [] each = tt
    by_item (x ∷ ys) each = one (f x) (filter_map f ys) (each x (inl refl)) (by_item ys (λ z h. each z (inr h)))

-- sums over rows are numbers of members
pub members : (pairs : List (ℕ × ℕ)) (rows : List Pair) (test : ℕ × ℕ → Bool) → Tallies pairs rows → sum_by (λ row. cond (test (pair_of row)) row.times 0) rows ≡ count_by test pairs
members pairs rows test tallied = sym (sum_filter (λ row. row.times) (λ row. test (pair_of row)) rows) ∙ tables_count_members pairs rows test tallied
