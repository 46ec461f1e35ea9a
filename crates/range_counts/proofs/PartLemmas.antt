-- The front of a list whose numbers ascend.
use Rattle.std.proofs.Common.{◌≡◌, ℕ, zero, suc, ◌<◌, ◌≤◌, true, false, List, [], ◌∷◌, refl, ap, arith, length, take, le-leb, filter, nat_le}
use Rattle.std.specs.List.{AllWithin}
use Rattle.std.proofs.lemmas.Bool.{lt-leb}

none_pass : {X : Type 0} (at : X → ℕ) (xs : List X) (a : ℕ) → AllWithin (λ x. a < at x) xs 0 (length xs) → filter (λ x. nat_le (at x) a) xs ≡ []
none_pass at [] a ahead = refl
none_pass at (x ∷ xs) a ahead =
    let no : nat_le (at x) a ≡ false = lt-leb (at x) a (ahead 0 x (omega arith) (omega arith)) in
    rw no (none_pass at xs a (λ k d from within. ahead (suc k) d (omega arith) (omega (arith, within))))

-- where the first n are not above a number and the others are, the first n are those that are not
pub filter_is_take : {X : Type 0} (at : X → ℕ) (xs : List X) (n a : ℕ) → AllWithin (λ x. at x ≤ a) xs 0 n → AllWithin (λ x. a < at x) xs n (length xs) → n ≤ length xs → filter (λ x. nat_le (at x) a) xs ≡ take n xs
filter_is_take at xs zero a passed ahead within = none_pass at xs a ahead
filter_is_take at [] (suc n) a passed ahead within = refl
filter_is_take at (x ∷ xs) (suc n) a passed ahead within =
    let yes : nat_le (at x) a ≡ true = le-leb (at x) a (passed 0 x (omega arith) (omega arith)) in
    rw yes
    (ap (λ ys. x ∷ ys) (filter_is_take at xs n a (λ k d from below. passed (suc k) d (omega arith) (omega (arith, below))) (λ k d from below. ahead (suc k) d (omega (arith, from)) (omega (arith, below))) (omega (arith, within))))
