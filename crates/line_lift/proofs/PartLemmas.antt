-- What holds of each in the parts of a list.
use Rattle.std.proofs.Common.{ℕ, zero, suc, ◌<◌, ◌≤◌, List, [], ◌∷◌, take, drop, length, get_or, arith}
use Rattle.std.specs.List.{AllByRecursion}

pub all_front : {T : Type 0} (P : T → Type 0) (xs : List T) (n : ℕ) → ((k : ℕ) (d : T) → k < n → k < length xs → P (get_or xs k d)) → AllByRecursion P (take n xs)
all_front P [] zero each = tt
all_front P [] (suc n) each = tt
all_front P (x ∷ xs) zero each = tt
all_front P (x ∷ xs) (suc n) each = (each 0 x (omega arith) (omega arith), all_front P xs n (λ k d below within. each (suc k) d (omega (arith, below)) (omega (arith, within))))

pub all_back : {T : Type 0} (P : T → Type 0) (xs : List T) (n : ℕ) → ((k : ℕ) (d : T) → n ≤ k → k < length xs → P (get_or xs k d)) → AllByRecursion P (drop n xs)
all_back P [] zero each = tt
all_back P [] (suc n) each = tt
all_back P (x ∷ xs) zero each = (each 0 x (omega arith) (omega arith), all_back P xs zero (λ k d from within. each (suc k) d (omega arith) (omega (arith, within))))
all_back P (x ∷ xs) (suc n) each = all_back P xs n (λ k d from within. each (suc k) d (omega (arith, from)) (omega (arith, within)))

pub all_taken : {T : Type 0} (P : T → Type 0) (xs : List T) (n : ℕ) → AllByRecursion P xs → AllByRecursion P (take n xs)
all_taken P [] zero all = tt
all_taken P [] (suc n) all = tt
all_taken P (x ∷ xs) zero all = tt
all_taken P (x ∷ xs) (suc n) all = (all.0, all_taken P xs n all.1)
