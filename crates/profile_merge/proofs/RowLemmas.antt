-- Sums, with zeros behind them.
use Rattle.std.proofs.Common.{◌≡◌, ◌≤◌, ℕ, zero, suc, List, [], ◌∷◌, ◌++◌, take, length, replicate, refl, ap, ◌∙◌}
use Rattle.std.specs.Prelude.{slice_index}
use Rattle.std.proofs.lemmas.List.{take_all}
use Rattle.profile_text.specs.Stamps.{ReadsTheSame}

zeros_behind : (sums : List ℕ) (n k : ℕ) → slice_index (sums ++ replicate n 0) k ≡ slice_index sums k
zeros_behind [] zero k = refl
zeros_behind [] (suc n) zero = refl
zeros_behind [] (suc n) (suc k) = zeros_behind [] n k
zeros_behind (sum ∷ sums) n zero = refl
zeros_behind (sum ∷ sums) n (suc k) = zeros_behind sums n k

-- a copy that is filled up with zeros
pub padded_reads : (sums front copied filled padded : List ℕ) (n more : ℕ) → length sums ≤ n → front ≡ [] → copied ≡ sums → filled ≡ front ++ copied
    → padded ≡ take n filled ++ replicate more 0 → ReadsTheSame sums padded
padded_reads sums front copied filled padded n more few none same both is k =
    let whole : filled ≡ sums = both ∙ (λ i. none i ++ same i) in
    ap (λ (xs : List ℕ). slice_index xs k)
    (is ∙ (λ i. take n (whole i) ++ replicate more 0) ∙ ap (λ (xs : List ℕ). xs ++ replicate more 0) (take_all n sums few))
    ∙ zeros_behind sums more k
