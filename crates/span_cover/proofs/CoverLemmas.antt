-- The members of one depth, member by member.
use Rattle.std.proofs.Common.{◌≡◌, ℕ, zero, suc, ◌+◌, ◌<◌, ◌≤◌, Bool, true, false, List, [], ◌∷◌, ◌++◌, Option, None, Some, refl, sym, ap, ◌∙◌, arith, subst, cond, length, drop, take, get_or, inl, inr, ◌⊎◌}
use Rattle.std.specs.Prelude.{find, nat_lt, nat_eq, unwrap_or, ◌&&◌, ◌||◌}
use Rattle.std.specs.List.{enumerate_from, last_or, list_any}
use Rattle.std.specs.Option.{option_map, option_or}
use Rattle.std.proofs.Math.Seq.{drop-cons, drop-nil, take-suc}
use Rattle.std.proofs.lemmas.Bool.Decides.{nat_tests}
use Rattle.std.proofs.lemmas.List.FromFn.{length-enumerate_from, get_or-enumerate_from}
use Rattle.std.proofs.lemmas.List.{length-take-le}
use Rattle.std.proofs.lemmas.List.Folds.{find-append}
use Rattle.address_spans.proofs.SpanLemmas.{owner-append}
use Rattle.address_spans.specs.declared.span.Span.{Span}
use Rattle.address_spans.specs.Spans.{AreDisjoint, owner_at, framed_owner, holds as span_holds}
use Rattle.chain_model.specs.declared.member.Member.{Member}
use Rattle.chain_model.specs.Chains.{holds, holds_at, numbered, function_at, piece_holds}
use Rattle.chain_model.specs.Pass.{chain_from}
use Rattle.chain_model.proofs.PassLemmas.{chain-left, chain-taken, chain-passed, less as is_less, not_less as not_within}
use Rattle.span_cover.specs.Owners.{owned, innermost_from, spans_of}
use Rattle.span_cover.specs.Levels.{past, next_in, IsLevel, LevelSoFar}

within : (d k : ℕ) → k ≤ d → nat_lt d k ≡ false
within d k le = grind (arith, nat_tests)

outside : (d k : ℕ) → d < k → nat_lt d k ≡ true
outside d k lt = grind (arith, nat_tests)

le_or_lt : (m n : ℕ) → (m ≤ n) ⊎ (n < m)
le_or_lt m n = by (nat_lt n m) refl
  where
    by : (b : Bool) → nat_lt n m ≡ b → (m ≤ n) ⊎ (n < m)
    by true is = inr (is_less n m is)
    by false is = inl (not_within n m is)

-- a deeper member is not the next of a chain
pub not_next : (k a : ℕ) (m : Member) → k < m.depth → holds_at k a m ≡ false
not_next k a m deeper = ap (λ b. b && holds a m) (other m.depth k deeper)
  where
    other : (d k : ℕ) → k < d → nat_eq d k ≡ false
    other d k lt = grind (arith, nat_tests)

pub next : (k a : ℕ) (m : Member) (b : Bool) → m.depth ≡ k → holds a m ≡ b → holds_at k a m ≡ b
next k a m b at held = ap (λ t. t && holds a m) (same m.depth k at) ∙ held
  where
    same : (d k : ℕ) → d ≡ k → nat_eq d k ≡ true
    same d k is = grind (arith, nat_tests)

deeper-passed : (k a : ℕ) (x : ℕ × Member) (xs : List (ℕ × Member)) → k < x.1.depth → chain_from k a (x ∷ xs) ≡ chain_from k a xs
deeper-passed k a x xs deeper = chain-passed k a x xs (within x.1.depth k (omega (arith, deeper))) (not_next k a x.1 deeper)

-- what is below a member changes no chain of its own depth
skip : (k d a : ℕ) (xs : List (ℕ × Member)) → k < d → chain_from k a xs ≡ chain_from k a (past d xs)
skip k d a [] deeper = refl
skip k d a (x ∷ xs) deeper = by (nat_lt x.1.depth d) refl (skip k d a xs deeper)
  where
    by : (b : Bool) → nat_lt x.1.depth d ≡ b → chain_from k a xs ≡ chain_from k a (past d xs) → chain_from k a (x ∷ xs) ≡ chain_from k a (cond b (x ∷ xs) (past d xs))
    by true is more = refl
    by false is more = deeper-passed k a x xs (omega (arith, not_within x.1.depth d is)) ∙ more

past-in : (k : ℕ) (x : ℕ × Member) (xs : List (ℕ × Member)) → k ≤ x.1.depth → past k (x ∷ xs) ≡ past k xs
past-in k x xs deep = ap (λ b. cond b (x ∷ xs) (past k xs)) (within x.1.depth k deep)

past-out : (k : ℕ) (x : ℕ × Member) (xs : List (ℕ × Member)) → x.1.depth < k → past k (x ∷ xs) ≡ x ∷ xs
past-out k x xs shallow = ap (λ b. cond b (x ∷ xs) (past k xs)) (outside x.1.depth k shallow)

past-past : (k d : ℕ) (xs : List (ℕ × Member)) → k ≤ d → past k (past d xs) ≡ past k xs
past-past k d [] le = refl
past-past k d (x ∷ xs) le = by (nat_lt x.1.depth d) refl (past-past k d xs le)
  where
    by : (b : Bool) → nat_lt x.1.depth d ≡ b → past k (past d xs) ≡ past k xs → past k (cond b (x ∷ xs) (past d xs)) ≡ past k (x ∷ xs)
    by true is more = refl
    by false is more = more ∙ sym (past-in k x xs (omega (arith, not_within x.1.depth d is)))

-- the last of a list with a first element
last-number : (x : ℕ × Member) (ys : List (ℕ × Member)) → option_map (λ (m : ℕ × Member). m.0) (last_or (Some x) ys) ≡ Some (unwrap_or (option_map (λ (m : ℕ × Member). m.0) (last_or None ys)) x.0)
last-number x [] = refl
last-number x (y ∷ ys) = last-number y ys ∙ some-or (last-number y ys)
  where
    some-or : {o : Option ℕ} {n : ℕ} → o ≡ Some n → Some n ≡ Some (unwrap_or o x.0)
    some-or is = rw is refl

-- a member of the depth, and what stands below it
pub innermost-taken : (k a : ℕ) (x : ℕ × Member) (xs : List (ℕ × Member)) → x.1.depth ≡ k
    → innermost_from k a (x ∷ xs) ≡ option_or (framed_owner (owned a x.0 x.1) (innermost_from (k + 1) a xs)) (innermost_from k a xs)
innermost-taken k a x xs at = by (holds a x.1) refl
  where
    by : (b : Bool) → holds a x.1 ≡ b
        → innermost_from k a (x ∷ xs) ≡ option_or (framed_owner (cond b (Some x.0) None) (innermost_from (k + 1) a xs)) (innermost_from k a xs)
    by true held =
        ap (λ ys. option_map (λ (m : ℕ × Member). m.0) (last_or None ys)) (chain-taken k a x xs (within x.1.depth k (omega (arith, at))) (next k a x.1 true at held))
        ∙ last-number x (chain_from (k + 1) a xs)
    by false missed =
        ap (λ ys. option_map (λ (m : ℕ × Member). m.0) (last_or None ys)) (chain-passed k a x xs (within x.1.depth k (omega (arith, at))) (next k a x.1 false at missed))

pub innermost-passed : (k a : ℕ) (x : ℕ × Member) (xs : List (ℕ × Member)) → k < x.1.depth → innermost_from k a (x ∷ xs) ≡ innermost_from k a xs
innermost-passed k a x xs deeper = ap (λ ys. option_map (λ (m : ℕ × Member). m.0) (last_or None ys)) (deeper-passed k a x xs deeper)

innermost-left : (k a : ℕ) (x : ℕ × Member) (xs : List (ℕ × Member)) → x.1.depth < k → innermost_from k a (x ∷ xs) ≡ None
innermost-left k a x xs shallow = ap (λ ys. option_map (λ (m : ℕ × Member). m.0) (last_or None ys)) (chain-left k a x xs (outside x.1.depth k shallow))

innermost-skip : (k d a : ℕ) (xs : List (ℕ × Member)) → k < d → innermost_from k a xs ≡ innermost_from k a (past d xs)
innermost-skip k d a xs deeper = ap (λ ys. option_map (λ (m : ℕ × Member). m.0) (last_or None ys)) (skip k d a xs deeper)

-- the member of a number, and those behind it
drop-numbered-at : (members : List Member) (at : ℕ) (m : Member) → at < length members → drop at (numbered members) ≡ (at, get_or members at m) ∷ drop (at + 1) (numbered members)
drop-numbered-at members at m there =
    drop-cons (numbered members) at (at, m) (omega (arith, there, length-enumerate_from 0 members))
    ∙ ap (λ x. x ∷ drop (suc at) (numbered members)) (get_or-enumerate_from 0 members at (at, m) there)
    ∙ let zero-at : 0 + at ≡ at = omega arith in
    ap (λ n. (n, get_or members at m) ∷ drop (suc at) (numbered members)) zero-at
    ∙ let one : suc at ≡ at + 1 = omega arith in
    ap (λ n. (at, get_or members at m) ∷ drop n (numbered members)) one

pub drop-numbered : (members : List Member) (at : ℕ) (m : Member) → at < length members → m ≡ get_or members at m → drop at (numbered members) ≡ (at, m) ∷ drop (at + 1) (numbered members)
drop-numbered members at m there is = drop-numbered-at members at m there ∙ ap (λ x. (at, x) ∷ drop (at + 1) (numbered members)) (sym is)

pub drop-all : (xs : List (ℕ × Member)) (n : ℕ) → length xs ≤ n → drop n xs ≡ []
drop-all [] n le = drop-nil n
drop-all (x ∷ xs) zero le = absurd (omega arith)
drop-all (x ∷ xs) (suc n) le = drop-all xs n (omega (arith, le))

pub or-or : (o p q : Option ℕ) → option_or (option_or o p) q ≡ option_or o (option_or p q)
or-or None p q = refl
or-or (Some n) p q = refl

pub or-none : (o : Option ℕ) → option_or o None ≡ o
or-none None = refl
or-none (Some n) = refl

-- a member of the depth comes in with its cover
pub level-takes : (members : List Member) (first depth at : ℕ) (spans spans' inner : List Span) (m : Member) (end : ℕ)
    → LevelSoFar members first depth spans at → at < length members → m ≡ get_or members at m → m.depth ≡ depth
    → IsLevel members (at + 1) (m.depth + 1) inner end
    → ((a : ℕ) → owner_at spans' a ≡ option_or (owner_at spans a) (framed_owner (owned a at m) (owner_at inner a)))
    → LevelSoFar members first depth spans' end
level-takes members first depth at spans spans' inner m end so_far there is same below pushed =
    let here = drop-numbered members at m there is in
    record {
      owners = λ a.
          ap (λ o. option_or o (innermost_from depth a (drop end (numbered members)))) (pushed a)
          ∙ or-or (owner_at spans a) (framed_owner (owned a at m) (owner_at inner a)) (innermost_from depth a (drop end (numbered members)))
          ∙ ap (option_or (owner_at spans a)) (
          ap (λ o. option_or (framed_owner (owned a at m) o) (innermost_from depth a (drop end (numbered members)))) (below.owners a ∙ ap (λ d. innermost_from (d + 1) a (drop (at + 1) (numbered members))) same)
          ∙ ap (λ ys. option_or (framed_owner (owned a at m) (innermost_from (depth + 1) a (drop (at + 1) (numbered members)))) (innermost_from depth a ys)) below.rest
          ∙ ap (option_or (framed_owner (owned a at m) (innermost_from (depth + 1) a (drop (at + 1) (numbered members)))))
          (sym (innermost-skip depth (m.depth + 1) a (drop (at + 1) (numbered members)) (omega (arith, same))))
          ∙ sym (innermost-taken depth a (at, m) (drop (at + 1) (numbered members)) same)
          ∙ ap (innermost_from depth a) (sym here))
          ∙ so_far.owners a;
      onward = omega (arith, so_far.onward, below.onward);
      within = below.within;
      rest =
          ap (past depth) below.rest
          ∙ past-past depth (m.depth + 1) (drop (at + 1) (numbered members)) (omega (arith, same))
          ∙ sym (past-in depth (at, m) (drop (at + 1) (numbered members)) (omega (arith, same)))
          ∙ ap (past depth) (sym here)
          ∙ so_far.rest;
    }

-- one that is deeper, though none of the depth stands before it, is passed over with what is below it
pub level-passes : (members : List Member) (first depth at : ℕ) (spans inner : List Span) (m : Member) (end : ℕ)
    → LevelSoFar members first depth spans at → at < length members → m ≡ get_or members at m → depth < m.depth
    → IsLevel members (at + 1) (m.depth + 1) inner end
    → LevelSoFar members first depth spans end
level-passes members first depth at spans inner m end so_far there is deeper below =
    let here = drop-numbered members at m there is in
    record {
      owners = λ a.
          ap (option_or (owner_at spans a)) (
          ap (innermost_from depth a) below.rest
          ∙ sym (innermost-skip depth (m.depth + 1) a (drop (at + 1) (numbered members)) (omega (arith, deeper)))
          ∙ sym (innermost-passed depth a (at, m) (drop (at + 1) (numbered members)) deeper)
          ∙ ap (innermost_from depth a) (sym here))
          ∙ so_far.owners a;
      onward = omega (arith, so_far.onward, below.onward);
      within = below.within;
      rest =
          ap (past depth) below.rest
          ∙ past-past depth (m.depth + 1) (drop (at + 1) (numbered members)) (omega (arith, deeper))
          ∙ sym (past-in depth (at, m) (drop (at + 1) (numbered members)) (omega (arith, deeper)))
          ∙ ap (past depth) (sym here)
          ∙ so_far.rest;
    }

-- what is known of the next member
pub next-some : (members : List Member) (at depth : ℕ) (m : Member) → Some m ≡ next_in depth (drop at (numbered members)) → (at < length members) × (m ≡ get_or members at m) × (depth ≤ m.depth)
next-some members at depth m is = elim (le_or_lt (length members) at) [
  | inl out ↦ let none = ap (next_in depth) (drop-all (numbered members) at (omega (arith, out, length-enumerate_from 0 members))) in absurd (no_member m (is ∙ none))
  | inr there ↦ first there (is ∙ ap (next_in depth) (drop-numbered-at members at m there))
]
  where
    no_member : (m : Member) → Some m ≡ None → ⊥
    no_member m is = cc

    by : (x : Member) (b : Bool) → nat_lt x.depth depth ≡ b → Some m ≡ cond b None (Some x) → (m ≡ x) × (depth ≤ x.depth)
    by x true is' is = absurd (no_member m is)
    by x false is' is = let e : m ≡ x = cc in (e, not_within x.depth depth is')

    first : at < length members → Some m ≡ next_in depth ((at, get_or members at m) ∷ drop (at + 1) (numbered members)) → (at < length members) × (m ≡ get_or members at m) × (depth ≤ m.depth)
    first there is =
        let found = by (get_or members at m) (nat_lt (get_or members at m).depth depth) refl is in
        (there, found.0, subst (λ (x : Member). depth ≤ x.depth) (sym found.0) found.1)

pub next-none : (members : List Member) (at depth : ℕ) → length members ≤ at → None ≡ next_in depth (drop at (numbered members))
next-none members at depth out = ap (next_in depth) (sym (drop-all (numbered members) at (omega (arith, out, length-enumerate_from 0 members))))

pub next-shallow : (members : List Member) (at depth : ℕ) (m : Member) → at < length members → m ≡ get_or members at m → m.depth < depth → None ≡ next_in depth (drop at (numbered members))
next-shallow members at depth m there is shallow =
    sym (ap (next_in depth) (drop-numbered members at m there is) ∙ ap (λ b. cond b None (Some m)) (outside m.depth depth shallow))

pub next-deep : (members : List Member) (at depth : ℕ) (m : Member) → at < length members → m ≡ get_or members at m → depth ≤ m.depth → Some m ≡ next_in depth (drop at (numbered members))
next-deep members at depth m there is deep =
    sym (ap (next_in depth) (drop-numbered members at m there is) ∙ ap (λ b. cond b None (Some m)) (within m.depth depth deep))

-- where there is none the level ends
ends-innermost : (k a : ℕ) (xs : List (ℕ × Member)) → None ≡ next_in k xs → innermost_from k a xs ≡ None
ends-innermost k a [] is = refl
ends-innermost k a (x ∷ xs) is = by (nat_lt x.1.depth k) refl is
  where
    by : (b : Bool) → nat_lt x.1.depth k ≡ b → None ≡ cond b None (Some x.1) → innermost_from k a (x ∷ xs) ≡ None
    by true is' is = innermost-left k a x xs (is_less x.1.depth k is')
    by false is' is = absurd cc

ends-past : (k : ℕ) (xs : List (ℕ × Member)) → None ≡ next_in k xs → past k xs ≡ xs
ends-past k [] is = refl
ends-past k (x ∷ xs) is = by (nat_lt x.1.depth k) refl is
  where
    by : (b : Bool) → nat_lt x.1.depth k ≡ b → None ≡ cond b None (Some x.1) → past k (x ∷ xs) ≡ x ∷ xs
    by true is' is = past-out k x xs (is_less x.1.depth k is')
    by false is' is = absurd cc

pub level-ends : (members : List Member) (first depth at : ℕ) (spans made : List Span)
    → LevelSoFar members first depth spans at → None ≡ next_in depth (drop at (numbered members))
    → AreDisjoint made → ((a : ℕ) → owner_at made a ≡ owner_at spans a)
    → IsLevel members first depth made at
level-ends members first depth at spans made so_far end disjoint same =
    record {
      disjoint = disjoint;
      owners = λ a.
          same a ∙ sym (or-none (owner_at spans a))
          ∙ ap (option_or (owner_at spans a)) (sym (ends-innermost depth a (drop at (numbered members)) end))
          ∙ so_far.owners a;
      onward = so_far.onward;
      within = so_far.within;
      rest = sym (ends-past depth (drop at (numbered members)) end) ∙ so_far.rest;
    }

-- the spans of a member's pieces
pub spans-owner : (a n : ℕ) (pieces : List (ℕ × ℕ)) → owner_at (spans_of n pieces) a ≡ cond (list_any (piece_holds a) pieces) (Some n) None
spans-owner a n [] = refl
spans-owner a n (piece ∷ pieces) = by (piece_holds a piece) (spans-owner a n pieces)
  where
    by : (b : Bool) → owner_at (spans_of n pieces) a ≡ cond (list_any (piece_holds a) pieces) (Some n) None
        → option_map (λ (span : Span). span.owner) (cond b (Some (record { lo = piece.0; hi = piece.1; owner = n })) (find (span_holds a) (spans_of n pieces))) ≡ cond (b || list_any (piece_holds a) pieces) (Some n) None
    by true more = refl
    by false more = more

map-or : (f : ℕ × Member → ℕ) (o p : Option (ℕ × Member)) → option_map f (option_or o p) ≡ option_or (option_map f o) (option_map f p)
map-or f None p = refl
map-or f (Some x) p = refl

numbered-push : (n : ℕ) (members : List Member) (m : Member) → enumerate_from n (members ++ m ∷ []) ≡ enumerate_from n members ++ (n + length members, m) ∷ []
numbered-push n [] m = let e : n ≡ n + 0 = omega arith in ap (λ k. (k, m) ∷ []) e
numbered-push n (x ∷ xs) m =
    let e : n + 1 + length xs ≡ n + suc (length xs) = omega arith in
    ap (λ ys. (n, x) ∷ ys) (numbered-push (n + 1) xs m ∙ ap (λ k. enumerate_from (n + 1) xs ++ (k, m) ∷ []) e)

-- the function among some members and one more
function-more : (members : List Member) (i : ℕ) (m : Member) (a : ℕ) → i < length members → m ≡ get_or members i m
    → function_at (take (i + 1) members) a ≡ option_or (function_at (take i members) a) (cond (holds_at 0 a m) (Some i) None)
function-more members i m a there is =
    let one : i + 1 ≡ suc i = omega arith in
    let long : 0 + length (take i members) ≡ i = omega (arith, length-take-le i members (omega (arith, there))) in
    ap (λ n. function_at (take n members) a) one
    ∙ ap (λ ms. function_at ms a) (take-suc members i m there ∙ ap (λ x. take i members ++ x ∷ []) (sym is))
    ∙ ap (λ ms. option_map (λ (x : ℕ × Member). x.0) (find (λ x. holds_at 0 a x.1) ms)) (numbered-push 0 (take i members) m)
    ∙ ap (option_map (λ (x : ℕ × Member). x.0)) (find-append (λ (x : ℕ × Member). holds_at 0 a x.1) (numbered (take i members)) ((0 + length (take i members), m) ∷ []))
    ∙ map-or (λ x. x.0) (find (λ x. holds_at 0 a x.1) (numbered (take i members))) (find (λ x. holds_at 0 a x.1) ((0 + length (take i members), m) ∷ []))
    ∙ ap (option_or (function_at (take i members) a)) (by (holds_at 0 a m) (0 + length (take i members)) ∙ ap (λ n. cond (holds_at 0 a m) (Some n) None) long)
  where
    by : (b : Bool) (n : ℕ) → option_map (λ (x : ℕ × Member). x.0) (cond b (Some (n, m)) None) ≡ cond b (Some n) None
    by true n = refl
    by false n = refl

-- the pieces of a function come in
pub functions-take : (members : List Member) (i : ℕ) (m : Member) (spans spans' : List Span) → i < length members → m ≡ get_or members i m → m.depth ≡ 0
    → ((a : ℕ) → owner_at spans a ≡ function_at (take i members) a) → spans' ≡ spans ++ spans_of i m.pieces
    → (a : ℕ) → owner_at spans' a ≡ function_at (take (i + 1) members) a
functions-take members i m spans spans' there is function so_far pushed a =
    ap (λ s. owner_at s a) pushed
    ∙ owner-append spans (spans_of i m.pieces) a
    ∙ ap (λ o. option_or o (owner_at (spans_of i m.pieces) a)) (so_far a)
    ∙ ap (option_or (function_at (take i members) a)) (spans-owner a i m.pieces ∙ ap (λ b. cond b (Some i) None) (sym (next 0 a m (holds a m) function refl)))
    ∙ sym (function-more members i m a there is)

-- a call changes nothing
pub functions-pass : (members : List Member) (i : ℕ) (m : Member) (spans : List Span) → i < length members → m ≡ get_or members i m → (m.depth ≡ 0 → ⊥)
    → ((a : ℕ) → owner_at spans a ≡ function_at (take i members) a)
    → (a : ℕ) → owner_at spans a ≡ function_at (take (i + 1) members) a
functions-pass members i m spans there is call so_far a =
    so_far a ∙ sym (or-none (function_at (take i members) a))
    ∙ ap (λ b. option_or (function_at (take i members) a) (cond b (Some i) None)) (sym (not_next 0 a m (omega (arith, call))))
    ∙ sym (function-more members i m a there is)

-- a member with nothing inlined in it
pub alone : (a n : ℕ) (m : Member) (spans spans' inner : List Span) → true ≡ nat_eq (length inner) 0 → spans' ≡ spans ++ spans_of n m.pieces
    → owner_at spans' a ≡ option_or (owner_at spans a) (framed_owner (owned a n m) (owner_at inner a))
alone a n m spans spans' inner none pushed =
    ap (λ s. owner_at s a) pushed
    ∙ owner-append spans (spans_of n m.pieces) a
    ∙ ap (option_or (owner_at spans a)) (
    spans-owner a n m.pieces
    ∙ framed-none (owned a n m)
    ∙ ap (λ s. framed_owner (owned a n m) (owner_at s a)) (sym (empty inner none)))
  where
    framed-none : (o : Option ℕ) → o ≡ framed_owner o None
    framed-none None = refl
    framed-none (Some x) = refl

    no : (n : ℕ) → true ≡ nat_eq (suc n) 0 → ⊥
    no n is = grind (arith, nat_tests)

    empty : (xs : List Span) → true ≡ nat_eq (length xs) 0 → xs ≡ []
    empty [] is = refl
    empty (x ∷ xs) is = absurd (no (length xs) is)
