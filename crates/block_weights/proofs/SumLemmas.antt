-- Sums over those that pass a test.
use Rattle.std.proofs.Common.{◌≡◌, ℕ, zero, suc, List, [], ◌∷◌, refl, ◌∙◌, arith, length, take, drop}
use Rattle.std.specs.Prelude.{sum_by}
use Rattle.std.specs.List.{AllWithin}
use Rattle.std.proofs.lemmas.List.Sums.{sum_by-cons}
pub use Rattle.list_lemmas.proofs.Sums.{sum_passing-cons, sum_passing-append, sum_passing}

-- where no term is above 0 the sum is not either
pub no_sum : {X : Type 0} (f : X → ℕ) (xs : List X) → AllWithin (λ x. f x ≡ 0) xs 0 (length xs) → sum_by f xs ≡ 0
no_sum f [] none = refl
no_sum f (x ∷ xs) none =
    sum_by-cons f x xs
    ∙ omega (arith, none 0 x (omega arith) (omega arith), no_sum f xs (λ k d from below. none (suc k) d (omega arith) (omega (arith, below))))

pub no_sum_front : {X : Type 0} (f : X → ℕ) (xs : List X) (n : ℕ) → AllWithin (λ x. f x ≡ 0) xs 0 n → sum_by f (take n xs) ≡ 0
no_sum_front f xs zero none = refl
no_sum_front f [] (suc n) none = refl
no_sum_front f (x ∷ xs) (suc n) none =
    sum_by-cons f x (take n xs)
    ∙ omega (arith, none 0 x (omega arith) (omega arith), no_sum_front f xs n (λ k d from below. none (suc k) d (omega arith) (omega (arith, below))))

pub no_sum_back : {X : Type 0} (f : X → ℕ) (xs : List X) (n : ℕ) → AllWithin (λ x. f x ≡ 0) xs n (length xs) → sum_by f (drop n xs) ≡ 0
no_sum_back f xs zero none = no_sum f xs none
no_sum_back f [] (suc n) none = refl
no_sum_back f (x ∷ xs) (suc n) none =
    no_sum_back f xs n (λ k d from below. none (suc k) d (omega (arith, from)) (omega (arith, below)))
