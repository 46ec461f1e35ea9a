-- The pass over the members finds the chain, step by step.
use Rattle.std.proofs.Common.{◌≡◌, ℕ, zero, suc, ◌+◌, ◌<◌, ◌≤◌, Bool, true, false, List, [], ◌∷◌, ◌++◌, None, Some, length, refl, sym, ap, ◌∙◌, arith, subst, cond, length-append}
use Rattle.std.specs.Prelude.{find, nat_lt, nat_eq, ◌&&◌, take_while}
use Rattle.std.specs.List.{enumerate_from}
use Rattle.std.specs.Option.{option_map_or}
use Rattle.std.proofs.lemmas.Bool.Decides.{nat_tests}
use Rattle.std.proofs.lemmas.List.Sums.{take_while-cons}
use Rattle.chain_model.specs.declared.member.Member.{Member}
use Rattle.chain_model.specs.Chains.{holds, holds_at, numbered, below, first_at, chain_among}
use Rattle.chain_model.specs.Pass.{chain_from}
use Rattle.chain_model.specs.Laws.{IsChain, ends, goes_on, ChainsGoStepByStep, OnePassFindsChains}

-- ---- the pass

-- a member is less deep, or the next of the chain, or neither
pub data Step (depth address : ℕ) (member : Member) : Type 0 where
  left : nat_lt member.depth depth ≡ true → Step depth address member
  taken : nat_lt member.depth depth ≡ false → holds_at depth address member ≡ true → Step depth address member
  passed : nat_lt member.depth depth ≡ false → holds_at depth address member ≡ false → Step depth address member

pub step : (depth address : ℕ) (member : Member) → Step depth address member
step depth address member = by (nat_lt member.depth depth) refl (holds_at depth address member) refl
  where
    by : (less : Bool) → nat_lt member.depth depth ≡ less → (held : Bool) → holds_at depth address member ≡ held → Step depth address member
    by true is held is' = left is
    by false is true is' = taken is is'
    by false is false is' = passed is is'

pub chain-left : (k a : ℕ) (x : ℕ × Member) (xs : List (ℕ × Member)) → nat_lt x.1.depth k ≡ true → chain_from k a (x ∷ xs) ≡ []
chain-left k a x xs less = rw less refl

pub chain-taken : (k a : ℕ) (x : ℕ × Member) (xs : List (ℕ × Member)) → nat_lt x.1.depth k ≡ false → holds_at k a x.1 ≡ true → chain_from k a (x ∷ xs) ≡ x ∷ chain_from (k + 1) a xs
chain-taken k a x xs within held = rw (within, held) refl

pub chain-passed : (k a : ℕ) (x : ℕ × Member) (xs : List (ℕ × Member)) → nat_lt x.1.depth k ≡ false → holds_at k a x.1 ≡ false → chain_from k a (x ∷ xs) ≡ chain_from k a xs
chain-passed k a x xs within missed = rw (within, missed) refl

pub not_less : (m n : ℕ) → nat_lt m n ≡ false → n ≤ m
not_less m n is = grind (arith, nat_tests)

pub less : (m n : ℕ) → nat_lt m n ≡ true → m < n
less m n is = grind (arith, nat_tests)

pub at_depth : (k a : ℕ) (m : Member) → holds_at k a m ≡ true → m.depth ≡ k
at_depth k a m held = first (nat_eq m.depth k) (holds a m) held (same m.depth k)
  where
    same : (m n : ℕ) → nat_eq m n ≡ true → m ≡ n
    same m n is = grind (arith, nat_tests)

    first : (p q : Bool) → (p && q) ≡ true → (p ≡ true → m.depth ≡ k) → m.depth ≡ k
    first true q both is = is refl
    first false q both is = absurd cc

-- those at the front that are deeper
deeper : ℕ → List (ℕ × Member) → List (ℕ × Member)
deeper k xs = take_while (λ next. nat_lt k next.1.depth) xs

deeper-cons : (k : ℕ) (x : ℕ × Member) (xs : List (ℕ × Member)) (b : Bool) → nat_lt k x.1.depth ≡ b → deeper k (x ∷ xs) ≡ cond b (x ∷ deeper k xs) []
unfolding deeper
deeper-cons k x xs b is = take_while-cons (λ (next : ℕ × Member). nat_lt k next.1.depth) x xs ∙ ap (λ t. cond t (x ∷ deeper k xs) []) is

deeper-nil : (k : ℕ) → deeper k [] ≡ []
unfolding deeper
deeper-nil k = refl

below-is : (k : ℕ) (x : ℕ × Member) (xs : List (ℕ × Member)) → x.1.depth ≡ k → deeper k xs ≡ below x xs
unfolding deeper
below-is k x xs at = sym (ap (λ d. deeper d xs) at)

deeper-twice : (k : ℕ) (xs : List (ℕ × Member)) → deeper (k + 1) (deeper k xs) ≡ deeper (k + 1) xs
deeper-twice k [] = ap (deeper (k + 1)) (deeper-nil k)
deeper-twice k (x ∷ xs) = by (deeper-twice k xs) (nat_lt k x.1.depth) refl (nat_lt (k + 1) x.1.depth) refl
  where
    by : deeper (k + 1) (deeper k xs) ≡ deeper (k + 1) xs → (b : Bool) → nat_lt k x.1.depth ≡ b → (b' : Bool) → nat_lt (k + 1) x.1.depth ≡ b' → deeper (k + 1) (deeper k (x ∷ xs)) ≡ deeper (k + 1) (x ∷ xs)
    by more true is true is' =
        ap (deeper (k + 1)) (deeper-cons k x xs true is) ∙ deeper-cons (k + 1) x (deeper k xs) true is'
        ∙ ap (λ ys. x ∷ ys) more ∙ sym (deeper-cons (k + 1) x xs true is')
    by more true is false is' =
        ap (deeper (k + 1)) (deeper-cons k x xs true is) ∙ deeper-cons (k + 1) x (deeper k xs) false is' ∙ sym (deeper-cons (k + 1) x xs false is')
    by more false is false is' = ap (deeper (k + 1)) (deeper-cons k x xs false is) ∙ deeper-nil (k + 1) ∙ sym (deeper-cons (k + 1) x xs false is')
    by more false is true is' =
        absurd (omega (arith, not_less k x.1.depth is, less (k + 1) x.1.depth is'))

-- one more that is not the next of the chain comes into question
skip : (a k : ℕ) (x : ℕ × Member) (ms c : List (ℕ × Member)) → holds_at k a x.1 ≡ false → IsChain a k ms c → IsChain a k (x ∷ ms) c
skip a k x ms c missed (ends _ _ none) = ends k (x ∷ ms) (rw missed none)
skip a k x ms c missed (goes_on _ before m behind rest none held down) = goes_on k (x ∷ before) m behind rest (rw missed none) held down

is_chain : (k a : ℕ) (xs : List (ℕ × Member)) → IsChain a (k + 1) (deeper k xs) (chain_from (k + 1) a xs)
is_chain k a [] = subst (λ ms. IsChain a (k + 1) ms []) (sym (deeper-nil k)) (ends (k + 1) [] refl)
is_chain k a (x ∷ xs) = elim (step (k + 1) a x.1) [
  | left is ↦
      let shallow : nat_lt k x.1.depth ≡ false = flip (less x.1.depth (k + 1) is) in
      subst (λ ms. IsChain a (k + 1) ms (chain_from (k + 1) a (x ∷ xs))) (sym (deeper-cons k x xs false shallow))
      (subst (IsChain a (k + 1) []) (sym (chain-left (k + 1) a x xs is)) (ends (k + 1) [] refl))
  | passed is missed ↦
      subst (λ ms. IsChain a (k + 1) ms (chain_from (k + 1) a (x ∷ xs))) (sym (deeper-cons k x xs true (deep (not_less x.1.depth (k + 1) is))))
      (subst (IsChain a (k + 1) (x ∷ deeper k xs)) (sym (chain-passed (k + 1) a x xs is missed))
      (skip a (k + 1) x (deeper k xs) (chain_from (k + 1) a xs) missed (is_chain k a xs)))
  | taken is held ↦
      subst (λ ms. IsChain a (k + 1) ms (chain_from (k + 1) a (x ∷ xs))) (sym (deeper-cons k x xs true (deep (not_less x.1.depth (k + 1) is))))
      (subst (IsChain a (k + 1) (x ∷ deeper k xs)) (sym (chain-taken (k + 1) a x xs is held))
      (goes_on (k + 1) [] x (deeper k xs) (chain_from (k + 1 + 1) a xs) refl held (down k a x xs (at_depth (k + 1) a x.1 held) (is_chain (k + 1) a xs))))
]
  where
    flip : x.1.depth < k + 1 → nat_lt k x.1.depth ≡ false
    flip lt = grind (arith, nat_tests)

    deep : k + 1 ≤ x.1.depth → nat_lt k x.1.depth ≡ true
    deep le = grind (arith, nat_tests)

    down : (k a : ℕ) (x : ℕ × Member) (xs : List (ℕ × Member)) → x.1.depth ≡ k + 1 → IsChain a (k + 1 + 1) (deeper (k + 1) xs) (chain_from (k + 1 + 1) a xs)
        → IsChain a (k + 1 + 1) (below x (deeper k xs)) (chain_from (k + 1 + 1) a xs)
    down k a x xs at is =
        subst (λ ms. IsChain a (k + 1 + 1) ms (chain_from (k + 1 + 1) a xs))
        (sym (deeper-twice k xs) ∙ below-is (k + 1) x (deeper k xs) at) is

top : (a : ℕ) (xs : List (ℕ × Member)) → IsChain a 0 xs (chain_from 0 a xs)
top a [] = ends 0 [] refl
top a (x ∷ xs) = elim (step 0 a x.1) [
  | left is ↦ absurd (omega (arith, less x.1.depth 0 is))
  | passed is missed ↦
      subst (IsChain a 0 (x ∷ xs)) (sym (chain-passed 0 a x xs is missed)) (skip a 0 x xs (chain_from 0 a xs) missed (top a xs))
  | taken is held ↦
      subst (IsChain a 0 (x ∷ xs)) (sym (chain-taken 0 a x xs is held))
      (goes_on 0 [] x xs (chain_from 1 a xs) refl held (down x xs (at_depth 0 a x.1 held) (is_chain 0 a xs)))
]
  where
    down : (x : ℕ × Member) (xs : List (ℕ × Member)) → x.1.depth ≡ 0 → IsChain a 1 (deeper 0 xs) (chain_from 1 a xs) → IsChain a 1 (below x xs) (chain_from 1 a xs)
    down x xs at is = subst (λ ms. IsChain a 1 ms (chain_from 1 a xs)) (below-is 0 x xs at) is

-- ---- what is a chain is the chain

first_at-none : (k a : ℕ) (ms : List (ℕ × Member)) → find (λ member. holds_at k a member.1) ms ≡ None → first_at k a ms ≡ None
first_at-none k a [] none = refl
first_at-none k a (m ∷ ms) none = by (first_at-none k a ms) (holds_at k a m.1) none
  where
    by : (find (λ member. holds_at k a member.1) ms ≡ None → first_at k a ms ≡ None) → (held : Bool)
        → cond held (Some m) (find (λ member. holds_at k a member.1) ms) ≡ None → cond held (Some (m, below m ms)) (first_at k a ms) ≡ None
    by more true none = absurd cc
    by more false none = more none

first_at-some : (k a : ℕ) (before : List (ℕ × Member)) (m : ℕ × Member) (behind : List (ℕ × Member)) → find (λ member. holds_at k a member.1) before ≡ None
    → holds_at k a m.1 ≡ true → first_at k a (before ++ m ∷ behind) ≡ Some (m, below m behind)
first_at-some k a [] m behind none held = rw held refl
first_at-some k a (b ∷ before) m behind none held = by (λ rest. first_at-some k a before m behind rest held) (holds_at k a b.1) none
  where
    by : (find (λ member. holds_at k a member.1) before ≡ None → first_at k a (before ++ m ∷ behind) ≡ Some (m, below m behind)) → (is : Bool)
        → cond is (Some b) (find (λ member. holds_at k a member.1) before) ≡ None
        → cond is (Some (b, below b (before ++ m ∷ behind))) (first_at k a (before ++ m ∷ behind)) ≡ Some (m, below m behind)
    by more true none = absurd cc
    by more false none = more none

deeper-few : (k : ℕ) (xs : List (ℕ × Member)) → length (deeper k xs) ≤ length xs
deeper-few k [] = let none = ap length (deeper-nil k) in omega (arith, none)
deeper-few k (x ∷ xs) = by (nat_lt k x.1.depth) refl (deeper-few k xs)
  where
    by : (b : Bool) → nat_lt k x.1.depth ≡ b → length (deeper k xs) ≤ length xs → length (deeper k (x ∷ xs)) ≤ length (x ∷ xs)
    by true is few = let here = ap length (deeper-cons k x xs true is) in omega (arith, here, few)
    by false is few = let here = ap length (deeper-cons k x xs false is) in omega (arith, here)

below-few : (m : ℕ × Member) (behind : List (ℕ × Member)) → length (below m behind) ≤ length behind
below-few m behind = let same = ap length (below-is m.1.depth m behind refl) in omega (arith, same, deeper-few m.1.depth behind)

determined : (a k : ℕ) (ms c : List (ℕ × Member)) → IsChain a k ms c → (most : ℕ) → length ms ≤ most → chain_among most k a ms ≡ c
determined a k _ _ (ends _ ms none) zero room = refl
determined a k _ _ (ends _ ms none) (suc most) room =
    ap (λ found. option_map_or (λ f. f.0 ∷ chain_among most (k + 1) a f.1) found []) (first_at-none k a ms none)
determined a k _ _ (goes_on _ before m behind rest none held down) zero room =
    absurd (omega (arith, room, length-append before (m ∷ behind)))
determined a k _ _ (goes_on _ before m behind rest none held down) (suc most) room =
    ap (λ found. option_map_or (λ f. f.0 ∷ chain_among most (k + 1) a f.1) found []) (first_at-some k a before m behind none held)
    ∙ ap (λ ms. m ∷ ms) (determined a (k + 1) (below m behind) rest down most (omega (arith, room, length-append before (m ∷ behind), below-few m behind)))

length-numbered : (j : ℕ) (members : List Member) → length (enumerate_from j members) ≡ length members
length-numbered j [] = refl
length-numbered j (m ∷ members) = ap suc (length-numbered (j + 1) members)

pub one_pass : OnePassFindsChains
one_pass members address =
    determined address 0 (numbered members) (chain_from 0 address (numbered members)) (top address (numbered members)) (length members) (omega (arith, length-numbered 0 members))

pub chains_go_step_by_step : ChainsGoStepByStep
chains_go_step_by_step members address =
    subst (λ c. IsChain address 0 (numbered members) c) (sym (one_pass members address)) (top address (numbered members))
