-- Lists of pairs that tell the same of each pair tell the same of each kind of pair.
use Rattle.std.proofs.Common.{◌≡◌, ℕ, zero, suc, ◌+◌, ◌≤◌, Bool, true, false, cond, List, [], ◌∷◌, refl, sym, ap, ◌∙◌, arith, inl, inr, length, map}
use Rattle.std.specs.Prelude.{count_by, filter, sum_by}
use Rattle.std.proofs.lemmas.Bool.{cases_Bool}
use Rattle.std.proofs.lemmas.List.Sums.{sum_by-cons}
use Rattle.sample_model.specs.declared.pair.Pair.{Pair}
use Rattle.branch_counts.specs.Table.{pair_of, times_in}
use Rattle.sample_model.specs.Pairs.{same_pair}
use Rattle.sample_model.proofs.PairLemmas.{same_pair-refl, same_pair-equal}
use Rattle.branch_counts.specs.Laws.{TablesCountMembers, times_where}

-- pairs, each with a number, and the sum of the numbers of those of a kind
sum_where : (ℕ × ℕ → Bool) → List (ℕ × ℕ × ℕ) → ℕ
sum_where test [] = 0
sum_where test ((a, b, n) ∷ counted) = cond (test (a, b)) n 0 + sum_where test counted

without : ℕ × ℕ → List (ℕ × ℕ × ℕ) → List (ℕ × ℕ × ℕ)
without p [] = []
without p ((a, b, n) ∷ counted) = cond (same_pair p (a, b)) (without p counted) ((a, b, n) ∷ without p counted)

length-without : (p : ℕ × ℕ) (counted : List (ℕ × ℕ × ℕ)) → length (without p counted) ≤ length counted
unfolding without
length-without p [] = omega arith
length-without p ((a, b, n) ∷ counted) = by_test (same_pair p (a, b)) (length-without p counted)
  where
    by_test : (t : Bool) → length (without p counted) ≤ length counted → length (cond t (without p counted) ((a, b, n) ∷ without p counted)) ≤ suc (length counted)
    by_test true less = omega (arith, less)
    by_test false less = omega (arith, less)

-- a sum is what one pair adds and what the others do
split : (test : ℕ × ℕ → Bool) (p : ℕ × ℕ) (counted : List (ℕ × ℕ × ℕ)) → sum_where test counted ≡ cond (test p) (sum_where (same_pair p) counted) 0 + sum_where test (without p counted)
unfolding sum_where without
split test p [] = by_test (test p)
  where
    by_test : (t : Bool) → sum_where test [] ≡ cond t (sum_where (same_pair p) []) 0 + sum_where test []
    by_test true = omega arith
    by_test false = omega arith
split test p ((a, b, n) ∷ counted) = elim (cases_Bool (same_pair p (a, b))) [
  | inl same ↦
      let is : test (a, b) ≡ test p = ap test (sym (same_pair-equal p (a, b) same)) in
      rw (same, is) (by_test (test p) (sum_where (same_pair p) counted) (sum_where test (without p counted)) (split test p counted))
  | inr other ↦ rw other (by_other (test (a, b)) (test p) (sum_where (same_pair p) counted) (sum_where test (without p counted)) (split test p counted))
]
  where
    by_test : (t : Bool) (one rest : ℕ) → sum_where test counted ≡ cond t one 0 + rest → cond t n 0 + sum_where test counted ≡ cond t (n + one) 0 + rest
    by_test true one rest is = omega (arith, is)
    by_test false one rest is = omega (arith, is)

    by_other : (t u : Bool) (one rest : ℕ) → sum_where test counted ≡ cond u one 0 + rest → cond t n 0 + sum_where test counted ≡ cond u (0 + one) 0 + (cond t n 0 + rest)
    by_other t true one rest is = omega (arith, is)
    by_other t false one rest is = omega (arith, is)

-- without a pair, it stands no more, and each other one as often
others : (p q : ℕ × ℕ) (counted : List (ℕ × ℕ × ℕ)) → sum_where (same_pair q) (without p counted) ≡ cond (same_pair q p) 0 (sum_where (same_pair q) counted)
unfolding sum_where without
others p q [] = by_test (same_pair q p)
  where
    by_test : (t : Bool) → sum_where (same_pair q) [] ≡ cond t 0 (sum_where (same_pair q) [])
    by_test true = refl
    by_test false = refl
others p q ((a, b, n) ∷ counted) = elim (cases_Bool (same_pair p (a, b))) [
  | inl same ↦
      let is : same_pair q (a, b) ≡ same_pair q p = ap (same_pair q) (sym (same_pair-equal p (a, b) same)) in
      rw (same, is) (by_test (same_pair q p) (others p q counted))
  | inr other ↦ elim (cases_Bool (same_pair q p)) [
    | inl equal ↦
        let is : same_pair q (a, b) ≡ false = ap (λ r. same_pair r (a, b)) (same_pair-equal q p equal) ∙ other in
        let rest = rw equal at (others p q counted) in
        rw (other, is, equal) (omega (arith, rest))
    | inr differ ↦
        let rest = rw differ at (others p q counted) in
        rw (other, differ) (omega (arith, rest))
  ]
]
  where
    by_test : (t : Bool) → sum_where (same_pair q) (without p counted) ≡ cond t 0 (sum_where (same_pair q) counted) → sum_where (same_pair q) (without p counted) ≡ cond t 0 (cond t n 0 + sum_where (same_pair q) counted)
    by_test true is = is
    by_test false is = omega (arith, is)

-- where no pair stands there is nothing of any kind
nothing : (test : ℕ × ℕ → Bool) (counted : List (ℕ × ℕ × ℕ)) → ((q : ℕ × ℕ) → sum_where (same_pair q) counted ≡ 0) → sum_where test counted ≡ 0
unfolding sum_where
nothing test [] none = refl
nothing test ((a, b, n) ∷ counted) none =
    let here : n ≡ 0 = first (same_pair (a, b) (a, b)) (same_pair-refl (a, b)) (none (a, b)) in
    let rest = nothing test counted (λ q. later (same_pair q (a, b)) q (none q)) in
    by_test (test (a, b)) here rest
  where
    first : (t : Bool) → t ≡ true → cond t n 0 + sum_where (same_pair (a, b)) counted ≡ 0 → n ≡ 0
    first true is zero_sum = omega (arith, zero_sum)
    first false is zero_sum = absurd cc

    later : (t : Bool) (q : ℕ × ℕ) → cond t n 0 + sum_where (same_pair q) counted ≡ 0 → sum_where (same_pair q) counted ≡ 0
    later t q zero_sum = omega (arith, zero_sum)

    by_test : (t : Bool) → n ≡ 0 → sum_where test counted ≡ 0 → cond t n 0 + sum_where test counted ≡ 0
    by_test true here rest = omega (arith, here, rest)
    by_test false here rest = omega (arith, rest)

-- lists that tell the same of each pair tell the same of each kind
same_where : (test : ℕ × ℕ → Bool) (n : ℕ) (counted told : List (ℕ × ℕ × ℕ)) → length counted ≤ n → ((q : ℕ × ℕ) → sum_where (same_pair q) counted ≡ sum_where (same_pair q) told) → sum_where test counted ≡ sum_where test told
unfolding sum_where without
same_where test n [] told short same = sym (nothing test told (λ q. sym (same q)))
same_where test zero ((a, b, m) ∷ counted) told short same = absurd (omega (arith, short))
same_where test (suc n) ((a, b, m) ∷ counted) told short same =
    let p : ℕ × ℕ = (a, b) in
    let all : List (ℕ × ℕ × ℕ) = (a, b, m) ∷ counted in
    let fewer : length (without p all) ≤ n = shorter (same_pair p (a, b)) (same_pair-refl (a, b)) in
    let rest = same_where test n (without p all) (without p told) fewer
    (λ q. others p q all ∙ ap (cond (same_pair q p) 0) (same q) ∙ sym (others p q told)) in
    split test p all
    ∙ ap (λ k. cond (test p) k 0 + sum_where test (without p all)) (same p)
    ∙ ap (λ k. cond (test p) (sum_where (same_pair p) told) 0 + k) rest
    ∙ sym (split test p told)
  where
    shorter : (t : Bool) → t ≡ true → length (cond t (without (a, b) counted) ((a, b, m) ∷ without (a, b) counted)) ≤ n
    shorter true is = omega (arith, short, length-without (a, b) counted)
    shorter false is = absurd cc

of_row : Pair → ℕ × ℕ × ℕ
of_row row = (row.from, row.to, row.times)

of_pair : ℕ × ℕ → ℕ × ℕ × ℕ
of_pair p = (p.0, p.1, 1)

rows-sum : (test : ℕ × ℕ → Bool) (rows : List Pair) → sum_where test (map of_row rows) ≡ times_where test rows
unfolding sum_where of_row
rows-sum test [] = refl
rows-sum test (row ∷ rows) = by_test (test (pair_of row)) (rows-sum test rows)
  where
    by_test : (t : Bool) → sum_where test (map of_row rows) ≡ times_where test rows → cond t row.times 0 + sum_where test (map of_row rows) ≡ sum_by (λ r. r.times) (cond t (row ∷ filter (λ r. test (pair_of r)) rows) (filter (λ r. test (pair_of r)) rows))
    by_test true is = ap (λ n. row.times + n) is ∙ sym (sum_by-cons (λ r. r.times) row (filter (λ r. test (pair_of r)) rows))
    by_test false is = omega (arith, is)

rows-times : (q : ℕ × ℕ) (rows : List Pair) → sum_where (same_pair q) (map of_row rows) ≡ times_in rows q
unfolding sum_where of_row
rows-times q [] = refl
rows-times q (row ∷ rows) =
    ap (λ n. cond (same_pair q (pair_of row)) row.times 0 + n) (rows-times q rows)
    ∙ sym (sum_by-cons (λ r. cond (same_pair q (pair_of r)) r.times 0) row rows)

pairs-sum : (test : ℕ × ℕ → Bool) (pairs : List (ℕ × ℕ)) → sum_where test (map of_pair pairs) ≡ count_by test pairs
unfolding sum_where of_pair
pairs-sum test [] = refl
pairs-sum test (p ∷ pairs) =
    ap (λ n. cond (test p) 1 0 + n) (pairs-sum test pairs) ∙ sym (sum_by-cons (λ q. cond (test q) 1 0) p pairs)

pub tables_count_members : TablesCountMembers
tables_count_members pairs rows test tallies =
    sym (rows-sum test rows)
    ∙ same_where test (length (map of_row rows)) (map of_row rows) (map of_pair pairs) (omega arith)
    (λ q. rows-times q rows ∙ tallies.times q ∙ sym (pairs-sum (same_pair q) pairs))
    ∙ pairs-sum test pairs
