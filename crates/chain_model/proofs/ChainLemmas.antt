-- The chain of an address, member by member.
use Rattle.std.proofs.Common.{◌≡◌, ℕ, zero, suc, ◌+◌, ◌<◌, ◌≤◌, List, [], ◌∷◌, ◌++◌, Option, None, Some, refl, sym, ap, ◌∙◌, arith, length, take, inl, inr, ◌⊎◌, append_assoc, length-append}
use Rattle.std.specs.Prelude.{find, slice_get}
use Rattle.std.specs.List.{enumerate_from, last_or}
use Rattle.std.specs.Option.{option_map}
use Rattle.chain_model.specs.declared.member.Member.{Member}
use Rattle.chain_model.specs.Chains.{holds_at, numbered, chain, path_from}
use Rattle.chain_model.specs.Pass.{chain_from}
use Rattle.chain_model.specs.Laws.{ChainsArePaths, ChainsBeginWithTheFunction}
use Rattle.chain_model.proofs.PassLemmas.{left, taken, passed, step, chain-left, chain-taken, chain-passed, at_depth, less, not_less, one_pass}

-- a chain begins with the function
begins : (a : ℕ) (xs : List (ℕ × Member)) → slice_get (chain_from 0 a xs) 0 ≡ find (λ member. holds_at 0 a member.1) xs
begins a [] = refl
begins a (x ∷ xs) = elim (step 0 a x.1) [
  | left is ↦ let none : x.1.depth < 0 = less x.1.depth 0 is in absurd (omega arith)
  | taken within held ↦ rw (chain-taken 0 a x xs within held, held) refl
  | passed within missed ↦ rw (chain-passed 0 a x xs within missed, missed) (begins a xs)
]

pub begin_with_the_function : ChainsBeginWithTheFunction
begin_with_the_function members address = ap (λ c. slice_get c 0) (one_pass members address) ∙ begins address (numbered members)

-- the last member of a chain is the first one, or the last of the rest
last-cases : (x : ℕ × Member) (xs : List (ℕ × Member)) (m : ℕ × Member) → last_or (Some x) xs ≡ Some m → ((x ≡ m) × (xs ≡ [])) ⊎ (last_or None xs ≡ Some m)
last-cases x [] m is = let e : x ≡ m = cc in inl (e, refl)
last-cases x (y ∷ ys) m is = inr is

-- some members, the last of which a path leads to
record Reaches (start xs : List (ℕ × Member)) (m : ℕ × Member) (whole : List (ℕ × Member)) : Type 0 where
  before : List (ℕ × Member)
  behind : List (ℕ × Member)
  split : xs ≡ before ++ m ∷ behind
  whole_is : path_from start (before ++ m ∷ []) ≡ whole

take-all : (c : List (ℕ × Member)) → take (length c) c ≡ c
take-all [] = refl
take-all (x ∷ xs) = ap (λ ys. x ∷ ys) (take-all xs)

take-within : (k d : ℕ) (p c rest : List (ℕ × Member)) → take k p ≡ c → length c ≡ k → k ≤ d → take k (take d p ++ rest) ≡ c
take-within zero d p c rest is long le = is
take-within (suc k) zero p c rest is long le = absurd (omega arith)
take-within (suc k) (suc d) [] c rest is long le = let none : length c ≡ 0 = ap length (sym is) in absurd (omega (arith, none, long))
take-within (suc k) (suc d) (x ∷ p) [] rest is long le = absurd (omega (arith, long))
take-within (suc k) (suc d) (x ∷ p) (y ∷ c) rest is long le =
    let same : x ≡ y = cc in
    let rest_is : take k p ≡ c = cc in
    ap (λ z. z ∷ take k (take d p ++ rest)) same ∙ ap (λ zs. y ∷ zs) (take-within k d p c rest rest_is (omega (arith, long)) (omega (arith, le)))

reach : (k a : ℕ) (c p xs : List (ℕ × Member)) (m : ℕ × Member) → length c ≡ k → take k p ≡ c → last_or None (chain_from k a xs) ≡ Some m → Reaches p xs m (c ++ chain_from k a xs)
reach k a c p [] m long is last = absurd cc
reach k a c p (x ∷ xs) m long is last = elim (step k a x.1) [
  | left less_deep ↦ let none : last_or None (chain_from k a (x ∷ xs)) ≡ None = ap (last_or None) (chain-left k a x xs less_deep) in absurd cc
  | passed within missed ↦
      let same = chain-passed k a x xs within missed in
      let r = reach k a c (take x.1.depth p ++ x ∷ []) xs m long (take-within k x.1.depth p c (x ∷ []) is long (not_less x.1.depth k within)) (ap (last_or None) (sym same) ∙ last) in
      record { before = x ∷ r.before; behind = r.behind; split = ap (λ ys. x ∷ ys) r.split; whole_is = r.whole_is ∙ ap (λ ys. c ++ ys) (sym same) }
  | taken within held ↦
      let same = chain-taken k a x xs within held in
      let path_is : take x.1.depth p ++ x ∷ [] ≡ c ++ x ∷ [] = ap (λ d. take d p ++ x ∷ []) (at_depth k a x.1 held) ∙ ap (λ ys. ys ++ x ∷ []) is in
      elim (last-cases x (chain_from (k + 1) a xs) m (ap (last_or None) (sym same) ∙ last)) [
        | inl h ↦ record {
          before = [];
          behind = xs;
          split = ap (λ y. y ∷ xs) h.0;
          whole_is = ap (λ y. path_from p (y ∷ [])) (sym h.0) ∙ path_is ∙ ap (λ ys. c ++ x ∷ ys) (sym h.1) ∙ ap (λ ys. c ++ ys) (sym same);
        }
        | inr h ↦
            let long' : length (c ++ x ∷ []) ≡ k + 1 = length-append c (x ∷ []) ∙ ap (λ n. n + 1) long in
            let is' : take (k + 1) (take x.1.depth p ++ x ∷ []) ≡ c ++ x ∷ [] = ap (take (k + 1)) path_is ∙ ap (λ n. take n (c ++ x ∷ [])) (sym long') ∙ take-all (c ++ x ∷ []) in
            let r = reach (k + 1) a (c ++ x ∷ []) (take x.1.depth p ++ x ∷ []) xs m long' is' h in
            record { before = x ∷ r.before; behind = r.behind; split = ap (λ ys. x ∷ ys) r.split; whole_is = r.whole_is ∙ append_assoc c (x ∷ []) (chain_from (k + 1) a xs) ∙ ap (λ ys. c ++ ys) (sym same) }
      ]
]

-- a member's number is how many stand before it
number-is : (j : ℕ) (xs : List Member) (before : List (ℕ × Member)) (m : ℕ × Member) (behind : List (ℕ × Member)) → enumerate_from j xs ≡ before ++ m ∷ behind → m.0 ≡ j + length before
number-is j [] [] m behind is = absurd cc
number-is j [] (b ∷ before) m behind is = absurd cc
number-is j (x ∷ xs) [] m behind is = let e : (j, x) ≡ m = cc in omega (arith, ap (λ (p : ℕ × Member). p.0) e)
number-is j (x ∷ xs) (b ∷ before) m behind is =
    let e : enumerate_from (j + 1) xs ≡ before ++ m ∷ behind = cc in
    omega (arith, number-is (j + 1) xs before m behind e)

take-through : (before : List (ℕ × Member)) (m : ℕ × Member) (behind : List (ℕ × Member)) (n : ℕ) → n ≡ length before → take (n + 1) (before ++ m ∷ behind) ≡ before ++ m ∷ []
take-through [] m behind n is = ap (λ k. take (k + 1) (m ∷ behind)) is
take-through (b ∷ before) m behind n is =
    ap (λ k. take (k + 1) (b ∷ before ++ m ∷ behind)) is
    ∙ let one : suc (length before) + 1 ≡ suc (length before + 1) = omega arith in
    ap (λ k. take k (b ∷ before ++ m ∷ behind)) one
    ∙ ap (λ ys. b ∷ ys) (take-through before m behind (length before) refl)

numbered-some : (o : Option (ℕ × Member)) (n : ℕ) → option_map (λ (m : ℕ × Member). m.0) o ≡ Some n → (m : ℕ × Member) × (o ≡ Some m) × (m.0 ≡ n)
numbered-some None n is = absurd cc
numbered-some (Some m) n is = let e : m.0 ≡ n = cc in (m, refl, e)

pub are_paths : ChainsArePaths
are_paths members address number is =
    let last = numbered-some (last_or None (chain members address)) number is in
    let r = reach 0 address [] [] (numbered members) last.0 refl refl (ap (last_or None) (sym (one_pass members address)) ∙ last.1) in
    let n : last.0.0 ≡ length r.before = omega (arith, number-is 0 members r.before last.0 r.behind r.split) in
    one_pass members address ∙ sym r.whole_is
    ∙ ap (path_from []) (sym (take-through r.before last.0 r.behind last.0.0 n))
    ∙ ap (λ ys. path_from [] (take (last.0.0 + 1) ys)) (sym r.split)
    ∙ ap (λ k. path_from [] (take (k + 1) (numbered members))) last.2
