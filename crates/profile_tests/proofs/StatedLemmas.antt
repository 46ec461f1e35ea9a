-- The keys of counts that are written out.
use Rattle.std.proofs.Common.{◌≡◌, ◌<◌, ℕ, zero, suc, [], ◌∷◌, get_or, refl, arith}
use Rattle.profile_tree.specs.declared.key_count.KeyCount.{KeyCount}

abbrev count : ℕ → ℕ → KeyCount
count key times = record { key = record { 0 = key }; times = times }

-- the key at each of five places has the number of the place
pub five_at : (a b c e f : ℕ) (k : ℕ) (d : KeyCount) → k < 5
    → (get_or (count 0 a ∷ count 1 b ∷ count 2 c ∷ count 3 e ∷ count 4 f ∷ []) k d).key.0 ≡ k
five_at a b c e f zero d within = refl
five_at a b c e f (suc zero) d within = refl
five_at a b c e f (suc (suc zero)) d within = refl
five_at a b c e f (suc (suc (suc zero))) d within = refl
five_at a b c e f (suc (suc (suc (suc zero)))) d within = refl
five_at a b c e f (suc (suc (suc (suc (suc k))))) d within = absurd (omega (arith, within))
