-- How often branches from a block were taken, by the sums in front of two places.
use Rattle.std.proofs.Common.{◌≡◌, ℕ, zero, suc, ◌+◌, ◌-◌, ◌^◌, ◌<◌, ◌≤◌, cond, List, [], ◌∷◌, ◌++◌, refl, sym, ap, subst, ◌∙◌, arith, inl, inr, length, take, drop, get_or}
use Rattle.std.specs.Prelude.{slice_index_or, sum_by, IsPermutation}
use Rattle.std.specs.List.{All, AllWithin}
use Rattle.std.proofs.Math.Path.{fun_ext}
use Rattle.std.proofs.lemmas.Bool.Decides.{nat_tests}
use Rattle.std.proofs.lemmas.Bool.{cases_lt}
use Rattle.std.proofs.lemmas.List.{get_or_default, get_or_push, length_push, places}
use Rattle.std.proofs.lemmas.List.Sorted.{sum_by-IsPermutation}
use Rattle.std.proofs.lemmas.List.Sums.{sum_by_more, sum_by-take-drop, sum_by-take-le}
use Rattle.block_model.specs.declared.parts.Block.{Block}
use Rattle.sample_model.specs.declared.pair.Pair.{Pair}
use Rattle.block_weights.specs.Sampled.{AreSums, branches_taken, rank}
use Rattle.weight_model.specs.Edges.{leads, taken}
use Rattle.block_weights.proofs.SumLemmas.{no_sum, no_sum_back, no_sum_front, sum_passing}

-- what a branch adds
abbrev pub share : Block → ℕ → Pair → ℕ
share block to branch = cond (leads block to branch) branch.times 0

-- what a place past the end of a list reads as
abbrev pub no_branch : Pair
no_branch = record { from = 0; to = 0; times = 0 }

-- a branch between two ranks of a target adds all its times
counts : (branch : Pair) (block : Block) (to : ℕ) → branch.from < 2 ^ 64 → block.lo < 2 ^ 64 → block.hi < 2 ^ 64 → rank to block.lo ≤ rank branch.to branch.from → rank branch.to branch.from < rank to block.hi
    → share block to branch ≡ branch.times
counts branch block to source lo hi low high =
    let is_to : branch.to ≡ to = omega (arith, source, lo, hi, low, high) in
    grind (arith, nat_tests)

-- behind the branches below the first rank each below the last one adds its times
between : (branches : List Pair) (block : Block) (to first k : ℕ) → block.lo < 2 ^ 64 → block.hi < 2 ^ 64 → All (λ branch. branch.from < 2 ^ 64) branches → first + k ≤ length branches
    → AllWithin (λ branch. rank branch.to branch.from < rank to block.lo) branches 0 first
    → AllWithin (λ branch. rank to block.lo ≤ rank branch.to branch.from) branches first (length branches)
    → AllWithin (λ branch. rank branch.to branch.from < rank to block.hi) branches 0 (first + k)
    → sum_by (share block to) (take (first + k) branches) + branches_taken (take first branches) ≡ branches_taken (take (first + k) branches)
between branches block to first zero lo hi sources within below from above =
    let none : sum_by (share block to) (take first branches) ≡ 0 =
    no_sum_front (share block to) branches first (λ k d at before. let low = below k d at before in grind (arith, nat_tests)) in
    let at : first + 0 ≡ first = omega arith in
    rw at (omega (arith, none))
between branches block to first (suc k) lo hi sources within below from above =
    let inside : first + k < length branches = omega (arith, within) in
    let so_far = between branches block to first k lo hi sources (omega (arith, inside)) below from (λ n d at before. above n d at (omega (arith, before))) in
    let one = counts (get_or branches (first + k) no_branch) block to
    (sources (first + k) no_branch inside) lo hi
    (from (first + k) no_branch (omega arith) inside)
    (above (first + k) no_branch (omega arith) (omega arith)) in
    let at : first + suc k ≡ first + k + 1 = omega arith in
    rw at
    (omega (
      arith,
      so_far,
      one,
      sum_by_more (share block to) branches (first + k) no_branch inside,
      sum_by_more (λ branch. branch.times) branches (first + k) no_branch inside,
    ))

-- how often branches from a block were taken is the difference of two sums
pub taken-between : (branches : List Pair) (block : Block) (to first last : ℕ) → block.lo < 2 ^ 64 → block.hi < 2 ^ 64 → All (λ branch. branch.from < 2 ^ 64) branches → first ≤ last → last ≤ length branches
    → AllWithin (λ branch. rank branch.to branch.from < rank to block.lo) branches 0 first
    → AllWithin (λ branch. rank to block.lo ≤ rank branch.to branch.from) branches first (length branches)
    → AllWithin (λ branch. rank branch.to branch.from < rank to block.hi) branches 0 last
    → AllWithin (λ branch. rank to block.hi ≤ rank branch.to branch.from) branches last (length branches)
    → taken branches block to + branches_taken (take first branches) ≡ branches_taken (take last branches)
taken-between branches block to first last lo hi sources less within below from above past =
    let is : first + (last - first) ≡ last = omega (arith, less) in
    let front : sum_by (share block to) (take last branches) + branches_taken (take first branches) ≡ branches_taken (take last branches) =
    subst (λ n. sum_by (share block to) (take n branches) + branches_taken (take first branches) ≡ branches_taken (take n branches)) is
    (between branches block to first (last - first) lo hi sources (omega (arith, is, within)) below from (λ k d at before. above k d at (omega (arith, is, before)))) in
    let rest : sum_by (share block to) (drop last branches) ≡ 0 =
    no_sum_back (share block to) branches last (λ k d at before. let high = past k d at before in grind (arith, nat_tests)) in
    omega (arith, front, rest, sum_by-take-drop (share block to) branches last, sum_passing (λ branch. branch.times) (leads block to) branches)

-- where no rank lies between, none was taken
pub taken-none : (branches : List Pair) (block : Block) (to first last : ℕ) → last ≤ first
    → AllWithin (λ branch. rank branch.to branch.from < rank to block.lo) branches 0 first
    → AllWithin (λ branch. rank to block.hi ≤ rank branch.to branch.from) branches last (length branches)
    → taken branches block to ≡ 0
taken-none branches block to first last less below past =
    let none : sum_by (share block to) branches ≡ 0 =
    no_sum (share block to) branches (λ k d at before. elim (cases_lt k first) [
      | inl front ↦ let low = below k d at front in grind (arith, nat_tests)
      | inr back ↦ let high = past k d (omega (arith, less, back)) before in grind (arith, nat_tests)
    ]) in
    sum_passing (λ branch. branch.times) (leads block to) branches ∙ none

-- the sums of so many branches
pub record SumsSoFar (branches : List Pair) (next sum : ℕ) (sums : List ℕ) : Type 0 where
  pub as_many : length sums ≡ next
  pub told : (n : ℕ) → n < next → slice_index_or sums n 0 ≡ branches_taken (take n branches)
  pub is : sum ≡ branches_taken (take next branches)
  pub sources : AllWithin (λ branch. branch.from < 2 ^ 64) branches 0 next

pub sums-none : (branches : List Pair) → SumsSoFar branches 0 0 []
sums-none branches = record {
  as_many = refl;
  told = λ n below. absurd (omega (arith, below));
  is = refl;
  sources = λ k d from below. absurd (omega (arith, below));
}

-- a sum more at the end of the list
told_more : (branches : List Pair) (next sum : ℕ) (sums : List ℕ) → SumsSoFar branches next sum sums → (n : ℕ) → n < next + 1 → slice_index_or (sums ++ sum ∷ []) n 0 ≡ branches_taken (take n branches)
told_more branches next sum sums so_far n below = elim (cases_lt n next) [
  | inl less ↦ let same : slice_index_or (sums ++ sum ∷ []) n 0 ≡ slice_index_or sums n 0 = grind (arith, places, less, so_far.as_many) in same ∙ so_far.told n less
  | inr not ↦
      let same : n ≡ length sums = omega (arith, below, not, so_far.as_many) in
      get_or_push sums sum 0 n (sym same) ∙ so_far.is ∙ ap (λ k. branches_taken (take k branches)) (sym so_far.as_many ∙ sym same)
]

pub sums-next : (branches : List Pair) (next sum : ℕ) (sums : List ℕ) (d : Pair) → SumsSoFar branches next sum sums → next < length branches → (get_or branches next d).from < 2 ^ 64
    → SumsSoFar branches (next + 1) (sum + (get_or branches next d).times) (sums ++ sum ∷ [])
sums-next branches next sum sums d so_far inside source = record {
  as_many = length_push sums sum ∙ ap (λ n. n + 1) so_far.as_many;
  told = told_more branches next sum sums so_far;
  is = omega (arith, so_far.is, sum_by_more (λ branch. branch.times) branches next d inside);
  sources = λ k e from below. elim (cases_lt k next) [
    | inl less ↦ so_far.sources k e from less
    | inr not ↦
        let same : k ≡ next = omega (arith, below, not) in
        rw same (omega (arith, source, ap (λ (b : Pair). b.from) (get_or_default branches next d e inside)))
  ];
}

pub sums-all : (branches : List Pair) (next sum : ℕ) (sums : List ℕ) → SumsSoFar branches next sum sums → length branches ≤ next → next ≤ length branches → AreSums branches (sums ++ sum ∷ [])
sums-all branches next sum sums so_far past within =
    let all : next ≡ length branches = omega (arith, past, within) in
    record {
      one_more = length_push sums sum ∙ ap (λ n. n + 1) (so_far.as_many ∙ all);
      told = λ n below. told_more branches next sum sums so_far n (omega (arith, below, all));
      sources = λ k d inside. so_far.sources k d (omega arith) (omega (arith, inside, all));
    }

-- a sum of so many branches is at most that of all
pub sum_below : (branches : List Pair) (n : ℕ) → branches_taken branches < 2 ^ 32 → branches_taken (take n branches) < 2 ^ 32
sum_below branches n fits = omega (arith, fits, sum_by-take-le (λ branch. branch.times) branches n)

-- in another order they were taken as often
pub taken-permutation : (xs ys : List Pair) → IsPermutation xs ys → taken ys ≡ taken xs
taken-permutation xs ys same = fun_ext (λ block. fun_ext (λ to.
    sum_passing (λ branch. branch.times) (leads block to) ys
    ∙ sum_by-IsPermutation (share block to) xs ys same
    ∙ sym (sum_passing (λ branch. branch.times) (leads block to) xs)))
