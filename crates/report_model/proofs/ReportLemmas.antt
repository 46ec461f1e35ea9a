-- Each sampled branch and range is counted once.
use Rattle.std.proofs.Common.{◌≡◌, ℕ, ◌+◌, Bool, true, false, cond, ◌||◌, List, [], ◌∷◌, refl, sym, ap, ◌∙◌, arith, inl, inr, length, map}
use Rattle.std.specs.Prelude.{count_by, filter, sum_by}
use Rattle.std.specs.List.{AllByRecursion}
use Rattle.std.proofs.lemmas.Bool.{cases_Bool}
use Rattle.std.proofs.lemmas.Bool.Decides.{nat_tests}
use Rattle.std.proofs.lemmas.List.Sums.{sum_by-cons}
use mathlib.Core.Bool.{or-true}
use Rattle.sample_model.specs.Laws.{IsAscending, has_pair}
use Rattle.sample_model.specs.Pairs.{same_pair, times_of, distinct_pairs}
use Rattle.sample_model.proofs.PairLemmas.{same_pair-refl, same_pair-equal, has_pair-below, distinct_pairs_ascend}
use Rattle.report_model.specs.declared.class.RangeClass.TheVariants.{Ran, Reversed, RangeOutside, Crossing}
use Rattle.report_model.specs.declared.class.Reason.TheVariants.{FromOutside, FromNameless, FromNoLine, ToOutside, ToNameless}
use Rattle.report_model.specs.Branches.{is_entry, is_inside, is_unmapped}
use Rattle.report_model.specs.Ranges.{is_class}
use Rattle.report_model.specs.ClassLaws.{times_where}
use Rattle.report_model.proofs.AddLemmas.{branches_add_up, ranges_add_up}
use Rattle.report_model.specs.Laws.{EachBranchOnce, EachRangeOnce}

-- one for a pair that is the same
same : ℕ × ℕ → ℕ × ℕ → ℕ
same p q = cond (same_pair p q) 1 0

same_pair-sym : (p q : ℕ × ℕ) → same_pair p q ≡ false → same_pair q p ≡ false
same_pair-sym p q is = grind (arith, nat_tests)

times-cons : (p q : ℕ × ℕ) (pairs : List (ℕ × ℕ)) → times_of p (q ∷ pairs) ≡ same p q + times_of p pairs
unfolding same
times-cons p q pairs = sum_by-cons (same p) q pairs

same-self : (p : ℕ × ℕ) → same p p ≡ 1
unfolding same
same-self p = ap (λ b. cond b 1 0) (same_pair-refl p)

same-other : (p q : ℕ × ℕ) → same_pair p q ≡ false → same p q ≡ 0
unfolding same
same-other p q is = ap (λ b. cond b 1 0) is

-- a sum over the pairs of a kind
sum_where : (ℕ × ℕ → Bool) → (ℕ × ℕ → ℕ) → List (ℕ × ℕ) → ℕ
sum_where test f pairs = sum_by f (filter test pairs)

sum-nothing : (test : ℕ × ℕ → Bool) (f : ℕ × ℕ → ℕ) → sum_where test f [] ≡ 0
unfolding sum_where
sum-nothing test f = refl

where-cons : (test : ℕ × ℕ → Bool) (f : ℕ × ℕ → ℕ) (p : ℕ × ℕ) (pairs : List (ℕ × ℕ)) → sum_where test f (p ∷ pairs) ≡ cond (test p) (f p) 0 + sum_where test f pairs
unfolding sum_where
where-cons test f p pairs = by_test (test p)
  where
    by_test : (t : Bool) → sum_by f (cond t (p ∷ filter test pairs) (filter test pairs)) ≡ cond t (f p) 0 + sum_by f (filter test pairs)
    by_test true = sum_by-cons f p (filter test pairs)
    by_test false = omega arith

nothing : (t : Bool) → ◌≡◌ {A = ℕ} (cond t 0 0) 0
nothing true = refl
nothing false = refl

neither : (t u : Bool) → (t || u) ≡ false → (t ≡ false) × (u ≡ false)
neither true u is = absurd cc
neither false u is = (refl, is)

second : (t u : Bool) → t ≡ false → (t || u) ≡ true → u ≡ true
second true u not is = absurd cc
second false u not is = is

-- a pair that does not stand there adds nothing
none_same : (test : ℕ × ℕ → Bool) (p : ℕ × ℕ) (pairs : List (ℕ × ℕ)) → has_pair p pairs ≡ false → sum_where test (λ q. same q p) pairs ≡ 0
none_same test p [] absent = sum-nothing test (λ q. same q p)
none_same test p (q ∷ pairs) absent =
    let parts = neither (same_pair p q) (has_pair p pairs) absent in
    let here = ap (λ (n : ℕ). cond (test q) n 0 + sum_where test (λ r. same r p) pairs) (same-other q p (same_pair-sym p q parts.0)) in
    omega (arith, where-cons test (λ r. same r p) q pairs, here, nothing (test q), none_same test p pairs parts.1)

-- a pair of a list that ascends stands there once
one_same : (test : ℕ × ℕ → Bool) (p : ℕ × ℕ) (pairs : List (ℕ × ℕ)) → IsAscending pairs → has_pair p pairs ≡ true → sum_where test (λ q. same q p) pairs ≡ cond (test p) 1 0
one_same test p [] up there = absurd cc
one_same test p (q ∷ pairs) up there =
    let sum = where-cons test (λ r. same r p) q pairs in
    elim (cases_Bool (same_pair p q)) [
      | inl equal ↦
          let is : p ≡ q = same_pair-equal p q equal in
          let absent : has_pair p pairs ≡ false = ap (λ (r : ℕ × ℕ). has_pair r pairs) is ∙ has_pair-below q pairs up.0 in
          let one : same q p ≡ 1 = ap (λ (r : ℕ × ℕ). same r p) (sym is) ∙ same-self p in
          let here = ap (λ (n : ℕ). cond (test q) n 0 + sum_where test (λ r. same r p) pairs) one in
          let mine = ap {B = ℕ} (λ (r : ℕ × ℕ). cond (test r) 1 0) is in
          omega (arith, sum, here, mine, none_same test p pairs absent)
      | inr other ↦
          let here = ap (λ (n : ℕ). cond (test q) n 0 + sum_where test (λ r. same r p) pairs) (same-other q p (same_pair-sym p q other)) in
          omega (arith, sum, here, nothing (test q), one_same test p pairs up.1 (second (same_pair p q) (has_pair p pairs) other there))
    ]

by_part : (t : Bool) (a b c x y z : ℕ) → a ≡ b + c → x ≡ y + z → cond t a 0 + x ≡ (cond t b 0 + y) + (cond t c 0 + z)
by_part true a b c x y z one rest = omega (arith, one, rest)
by_part false a b c x y z one rest = omega (arith, one, rest)

-- one more pair is counted once more
split : (test : ℕ × ℕ → Bool) (p : ℕ × ℕ) (listed pairs : List (ℕ × ℕ)) → sum_where test (λ q. times_of q (p ∷ listed)) pairs ≡ sum_where test (λ q. same q p) pairs + sum_where test (λ q. times_of q listed) pairs
split test p listed [] = omega (arith, sum-nothing test (λ q. times_of q (p ∷ listed)), sum-nothing test (λ q. same q p), sum-nothing test (λ q. times_of q listed))
split test p listed (q ∷ pairs) =
    let parts = by_part (test q) _ _ _ _ _ _ (times-cons q p listed) (split test p listed pairs) in
    omega (
      arith,
      parts,
      where-cons test (λ r. times_of r (p ∷ listed)) q pairs,
      where-cons test (λ r. same r p) q pairs,
      where-cons test (λ r. times_of r listed) q pairs,
    )

-- where all pairs of a list stand in one that ascends, those of a kind say together how many there are of it
kind_adds_up : (test : ℕ × ℕ → Bool) (distinct listed : List (ℕ × ℕ)) → IsAscending distinct → AllByRecursion (λ p. has_pair p distinct ≡ true) listed → sum_where test (λ q. times_of q listed) distinct ≡ count_by test listed
kind_adds_up test distinct [] up there = all_zero distinct
  where
    all_zero : (pairs : List (ℕ × ℕ)) → sum_where test (λ q. times_of q []) pairs ≡ 0
    all_zero [] = sum-nothing test (λ q. times_of q [])
    all_zero (q ∷ pairs) = omega (arith, where-cons test (λ r. times_of r []) q pairs, nothing (test q), all_zero pairs)
kind_adds_up test distinct (p ∷ listed) up there =
    omega (
      arith,
      split test p listed distinct,
      one_same test p distinct up there.0,
      kind_adds_up test distinct listed up there.1,
      sum_by-cons (λ q. cond (test q) 1 0) p listed,
    )

-- each member of a list stands there
behind_one : (q : ℕ × ℕ) (all pairs : List (ℕ × ℕ)) → AllByRecursion (λ p. has_pair p all ≡ true) pairs → AllByRecursion (λ p. has_pair p (q ∷ all) ≡ true) pairs
behind_one q all [] there = tt
behind_one q all (p ∷ pairs) there = (ap (λ t. same_pair p q || t) there.0 ∙ or-true (same_pair p q), behind_one q all pairs there.1)

members : (pairs : List (ℕ × ℕ)) → AllByRecursion (λ p. has_pair p pairs ≡ true) pairs
members [] = tt
members (p ∷ pairs) = (ap (λ t. t || has_pair p pairs) (same_pair-refl p), behind_one p pairs pairs (members pairs))

as_well : (one other pairs : List (ℕ × ℕ)) → ((p : ℕ × ℕ) → has_pair p other ≡ has_pair p one) → AllByRecursion (λ p. has_pair p one ≡ true) pairs → AllByRecursion (λ p. has_pair p other ≡ true) pairs
as_well one other [] same_pairs there = tt
as_well one other (p ∷ pairs) same_pairs there = (same_pairs p ∙ there.0, as_well one other pairs same_pairs there.1)

times_add_up : (test : ℕ × ℕ → Bool) (pairs : List (ℕ × ℕ)) → sum_by (λ q. times_of q pairs) (filter test (distinct_pairs pairs)) ≡ count_by test pairs
unfolding sum_where
times_add_up test pairs =
    let distinct = distinct_pairs_ascend pairs in
    kind_adds_up test (distinct_pairs pairs) pairs distinct.ascending (as_well pairs (distinct_pairs pairs) pairs distinct.same (members pairs))

-- each member of a list, once, with its class
each_once : {C : Type 0} → (ℕ × ℕ → C) → List (ℕ × ℕ) → List (C × ℕ)
each_once class pairs = map (λ p. (class p, 1)) pairs

times-each : {C : Type 0} (class : ℕ × ℕ → C) (is : C → Bool) (pairs : List (ℕ × ℕ)) → times_where is (each_once class pairs) ≡ count_by (λ p. is (class p)) pairs
unfolding each_once
times-each class is [] = refl
times-each {C} class is (p ∷ pairs) =
    by_test (is (class p)) (times-each class is pairs) (sum_by-cons (λ q. cond (is (class q)) 1 0) p pairs)
  where
    rest : List (C × ℕ)
    rest = filter (λ (x : C × ℕ). is x.0) (map (λ q. (class q, 1)) pairs)

    by_test : (t : Bool) → sum_by (λ (x : C × ℕ). x.1) rest ≡ count_by (λ q. is (class q)) pairs → count_by (λ q. is (class q)) (p ∷ pairs) ≡ cond t 1 0 + count_by (λ q. is (class q)) pairs
        → sum_by (λ (x : C × ℕ). x.1) (cond t ((class p, 1) ∷ rest) rest) ≡ count_by (λ q. is (class q)) (p ∷ pairs)
    by_test true same_rest count = omega (arith, same_rest, count, sum_by-cons (λ (x : C × ℕ). x.1) (class p, 1) rest)
    by_test false same_rest count = omega (arith, same_rest, count)

all-each : {C : Type 0} (class : ℕ × ℕ → C) (pairs : List (ℕ × ℕ)) → sum_by (λ (x : C × ℕ). x.1) (each_once class pairs) ≡ length pairs
unfolding each_once
all-each class [] = refl
all-each {C} class (p ∷ pairs) = omega (arith, sum_by-cons (λ (x : C × ℕ). x.1) (class p, 1) (map (λ q. (class q, 1)) pairs), all-each class pairs)

pub each_branch_once : EachBranchOnce
each_branch_once classes sampled =
    let class = classes.of_branch in
    let branches = sampled.branches in
    omega (
      arith,
      branches_add_up (each_once class branches),
      all-each class branches,
      times-each class is_entry branches,
      times-each class is_inside branches,
      times-each class (is_unmapped FromOutside) branches,
      times-each class (is_unmapped FromNameless) branches,
      times-each class (is_unmapped FromNoLine) branches,
      times-each class (is_unmapped ToOutside) branches,
      times-each class (is_unmapped ToNameless) branches,
      times_add_up (λ b. is_unmapped FromOutside (class b)) branches,
      times_add_up (λ b. is_unmapped FromNameless (class b)) branches,
      times_add_up (λ b. is_unmapped FromNoLine (class b)) branches,
      times_add_up (λ b. is_unmapped ToOutside (class b)) branches,
      times_add_up (λ b. is_unmapped ToNameless (class b)) branches,
    )

pub each_range_once : EachRangeOnce
each_range_once classes sampled =
    let class = classes.of_range in
    let ranges = sampled.ranges in
    omega (
      arith,
      ranges_add_up (each_once class ranges),
      all-each class ranges,
      times-each class (is_class Ran) ranges,
      times-each class (is_class Reversed) ranges,
      times-each class (is_class RangeOutside) ranges,
      times-each class (is_class Crossing) ranges,
    )
