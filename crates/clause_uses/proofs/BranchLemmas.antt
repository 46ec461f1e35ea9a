-- How often a branch stands among copies of one.
use Rattle.std.proofs.Common.{◌≡◌, ◌+◌, ◌*◌, ℕ, true, false, cond, List, replicate, refl, ap, ◌∙◌, arith}
use Rattle.std.proofs.lemmas.List.{length-replicate}
use Rattle.std.proofs.lemmas.List.Folds.{sum_by-replicate}
use Rattle.sample_model.specs.Pairs.{same_pair, times_of}
use Rattle.sample_model.specs.declared.pair.Pair.{Pair}
use Rattle.sample_model.proofs.PairLemmas.{same_pair-equal, same_pair-refl}
use Rattle.branch_counts.specs.Table.{AddsPairs, times_in, total_in}

copies : (p q : ℕ × ℕ) (n : ℕ) → times_of q (replicate n p) ≡ cond (same_pair q p) n 0
copies p q n =
    sum_by-replicate (λ (x : ℕ × ℕ). cond (same_pair q x) 1 0) n p
    ∙ elim (same_pair q p) as (λ b. ◌≡◌ {A = ℕ} (n * cond b 1 0) (cond b n 0)) [ true ↦ omega arith | false ↦ omega arith ]

another : (p q : ℕ × ℕ) → (q ≡ p → ⊥) → same_pair q p ≡ false
another p q other =
    elim (same_pair q p) as (λ b. same_pair q p ≡ b → b ≡ false) [
      | true ↦ λ same. absurd (other (same_pair-equal q p same))
      | false ↦ λ same. refl
    ] refl

module _ (old new : List Pair) (from to n : ℕ) (added : AddsPairs old new (replicate n (from, to))) where
  pub more_times : times_in new (from, to) ≡ times_in old (from, to) + n
  more_times =
      added.times (from, to)
      ∙ ap (λ k. times_in old (from, to) + k) (copies (from, to) (from, to) n ∙ ap (λ b. cond b n 0) (same_pair-refl (from, to)))

  pub other_times : (other : ℕ × ℕ) → (other ≡ (from, to) → ⊥) → times_in new other ≡ times_in old other
  other_times other apart =
      let none : times_of other (replicate n (from, to)) ≡ 0 = copies (from, to) other n ∙ ap (λ b. cond b n 0) (another (from, to) other apart) in
      omega (arith, added.times other, none)

  pub more_in_all : total_in new ≡ total_in old + n
  more_in_all = added.total ∙ ap (λ k. total_in old + k) (length-replicate n (from, to))
