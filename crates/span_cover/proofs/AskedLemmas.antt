-- The functions that are asked for, member by member.
use Rattle.std.proofs.Common.{◌≡◌, ℕ, zero, suc, ◌+◌, ◌-◌, ◌^◌, ◌<◌, ◌≤◌, Bool, true, false, List, [], ◌∷◌, Option, None, Some, refl, sym, ap, ◌∙◌, arith, subst, cond, length, drop, get_or}
use Rattle.std.specs.Prelude.{find, nat_lt, if◌then◌else◌, ◌==◌}
use Rattle.std.specs.List.{AllByRecursion, enumerate_from, filter, last_or}
use Rattle.std.specs.Option.{option_map, option_or}
use Rattle.std.proofs.lemmas.Bool.Decides.{nat_tests}
use Rattle.address_spans.specs.declared.span.Span.{Span}
use Rattle.address_spans.specs.Spans.{AreBetween, AreDisjoint, framed_owner, holds as span_holds, owner_at}
use Rattle.address_spans.proofs.SpanLemmas.{AreBetween-lower, owner-before, owner-hit, owner-miss}
use Rattle.chain_model.specs.declared.member.Member.{Member}
use Rattle.chain_model.specs.Chains.{function_at, holds, holds_at, innermost, numbered}
use Rattle.chain_model.specs.Pass.{chain_from}
use Rattle.chain_model.proofs.PassLemmas.{left, taken, passed, step, chain-left, chain-taken, chain-passed, one_pass}
use Rattle.span_cover.specs.Asked.{asks, innermost_asked, is_asked}
use Rattle.span_cover.specs.Owners.{innermost_from, owned, owned_by_function, owned_from}
use Rattle.span_cover.proofs.CoverLemmas.{drop-all, drop-numbered, innermost-passed, innermost-taken, next, not_next, or-none, or-or}

-- the numbers of a chain are those of members
chain-all : (k a bound : ℕ) (xs : List (ℕ × Member)) → AllByRecursion (λ m. m.0 < bound) xs → AllByRecursion (λ m. m.0 < bound) (chain_from k a xs)
chain-all k a bound [] all = tt
chain-all k a bound (x ∷ xs) all = elim (step k a x.1) [
  | left less ↦ subst (λ (ms : List (ℕ × Member)). AllByRecursion (λ m. m.0 < bound) ms) (sym (chain-left k a x xs less)) tt
  | taken less held ↦ subst (λ (ms : List (ℕ × Member)). AllByRecursion (λ m. m.0 < bound) ms) (sym (chain-taken k a x xs less held)) (all.0, chain-all (k + 1) a bound xs all.1)
  | passed less missed ↦ subst (λ (ms : List (ℕ × Member)). AllByRecursion (λ m. m.0 < bound) ms) (sym (chain-passed k a x xs less missed)) (chain-all k a bound xs all.1)
]

numbers-all : (n bound : ℕ) (xs : List Member) → n + length xs ≤ bound → AllByRecursion (λ m. m.0 < bound) (enumerate_from n xs)
numbers-all n bound [] room = tt
numbers-all n bound (x ∷ xs) room = (omega (arith, room), numbers-all (n + 1) bound xs (omega (arith, room)))

last-all : (bound : ℕ) (o : Option (ℕ × Member)) (xs : List (ℕ × Member)) (n : ℕ) → ((m : ℕ × Member) → o ≡ Some m → m.0 < bound) → AllByRecursion (λ m. m.0 < bound) xs → option_map (λ m. m.0) (last_or o xs) ≡ Some n → n < bound
last-all bound None [] n first all is = absurd (cc)
last-all bound (Some m) [] n first all is = let e : m.0 ≡ n = cc in omega (arith, e, first m refl)
last-all bound o (x ∷ xs) n first all is = last-all bound (Some x) xs n (λ m same. let e : x ≡ m = cc in subst (λ (y : ℕ × Member). y.0 < bound) e all.0) all.1 is

innermost-below : (bound a n : ℕ) (xs : List (ℕ × Member)) → AllByRecursion (λ m. m.0 < bound) xs → innermost_from 0 a xs ≡ Some n → n < bound
innermost-below bound a n xs all is = last-all bound None (chain_from 0 a xs) n (λ m same. absurd (cc)) (chain-all 0 a bound xs all) is

innermost-pass : (members : List Member) (a : ℕ) → innermost members a ≡ innermost_from 0 a (numbered members)
innermost-pass members a = ap (λ c. option_map (λ (m : ℕ × Member). m.0) (last_or None c)) (one_pass members a)

innermost-there : (members : List Member) (a n : ℕ) → innermost members a ≡ Some n → n < length members
innermost-there members a n is = innermost-below (length members) a n (numbered members) (numbers-all 0 (length members) members (omega arith)) (sym (innermost-pass members a) ∙ is)

-- what one function owns
pub function-asked : (marks : List Bool) (nobody a number : ℕ) (m : Member) (behind : List (ℕ × Member)) (inner : Option ℕ) → is_asked marks number ≡ true → inner ≡ innermost_from 1 a behind
    → framed_owner (owned a number m) inner ≡ owned_by_function marks nobody a (number, m) behind
function-asked marks nobody a number m behind inner asked is =
    ap (framed_owner (owned a number m)) is
    ∙ sym (ap (λ b. cond b (framed_owner (owned a number m) (innermost_from 1 a behind)) (owned a nobody m)) asked)

pub function-left : (marks : List Bool) (nobody a number : ℕ) (m : Member) (behind : List (ℕ × Member)) → is_asked marks number ≡ false
    → owned a nobody m ≡ owned_by_function marks nobody a (number, m) behind
function-left marks nobody a number m behind unasked =
    sym (ap (λ b. cond b (framed_owner (owned a number m) (innermost_from 1 a behind)) (owned a nobody m)) unasked)

-- how far the functions were taken
abbrev pub CoversSoFar : List Bool → List Member → List Span → ℕ → Type 0
CoversSoFar marks members spans at = (a : ℕ)
    → option_or (owner_at spans a) (owned_from marks (length members) a (drop at (numbered members)))
    ≡ owned_from marks (length members) a (numbered members)

is_zero : (n : ℕ) → n ≡ 0 → (n == 0) ≡ true
is_zero n is = grind (arith, nat_tests)

not_zero : (n : ℕ) → (n ≡ 0 → ⊥) → (n == 0) ≡ false
not_zero n is = grind (arith, nat_tests)

pub covers-take : (marks : List Bool) (members : List Member) (i : ℕ) (m : Member) (spans spans' : List Span) → i < length members → m ≡ get_or members i m → m.depth ≡ 0
    → CoversSoFar marks members spans i
    → ((a : ℕ) → owner_at spans' a ≡ option_or (owner_at spans a) (owned_by_function marks (length members) a (i, m) (drop (i + 1) (numbered members))))
    → CoversSoFar marks members spans' (i + 1)
covers-take marks members i m spans spans' there is function so_far pushed a =
    let rest = owned_from marks (length members) a (drop (i + 1) (numbered members)) in
    let mine = owned_by_function marks (length members) a (i, m) (drop (i + 1) (numbered members)) in
    ap (λ o. option_or o rest) (pushed a)
    ∙ or-or (owner_at spans a) mine rest
    ∙ ap (option_or (owner_at spans a)) (ap (λ b. option_or (cond b mine None) rest) (sym (is_zero m.depth function)) ∙ ap (owned_from marks (length members) a) (sym (drop-numbered members i m there is)))
    ∙ so_far a

pub covers-pass : (marks : List Bool) (members : List Member) (i : ℕ) (m : Member) (spans : List Span) → i < length members → m ≡ get_or members i m → (m.depth ≡ 0 → ⊥)
    → CoversSoFar marks members spans i → CoversSoFar marks members spans (i + 1)
covers-pass marks members i m spans there is call so_far a =
    let rest = owned_from marks (length members) a (drop (i + 1) (numbered members)) in
    let mine = owned_by_function marks (length members) a (i, m) (drop (i + 1) (numbered members)) in
    ap (option_or (owner_at spans a)) (ap (λ b. option_or (cond b mine None) rest) (sym (not_zero m.depth call)) ∙ ap (owned_from marks (length members) a) (sym (drop-numbered members i m there is)))
    ∙ so_far a

pub covers-all : (marks : List Bool) (members : List Member) (spans : List Span) (at : ℕ) → length (numbered members) ≤ at → CoversSoFar marks members spans at
    → (a : ℕ) → owner_at spans a ≡ owned_from marks (length members) a (numbered members)
covers-all marks members spans at end so_far a =
    sym (or-none (owner_at spans a))
    ∙ ap (λ xs. option_or (owner_at spans a) (owned_from marks (length members) a xs)) (sym (drop-all (numbered members) at end))
    ∙ so_far a

-- spans with owners below a number
abbrev only : ℕ → Option ℕ → Option ℕ
only end None = None
only end (Some n) = if nat_lt n end then Some n else None

abbrev kept : ℕ → List Span → List Span
kept end spans = filter (λ span. nat_lt span.owner end) spans

kept-in : (end : ℕ) (x : Span) (xs : List Span) → nat_lt x.owner end ≡ true → kept end (x ∷ xs) ≡ x ∷ kept end xs
kept-in end x xs is = rw is refl

kept-out : (end : ℕ) (x : Span) (xs : List Span) → nat_lt x.owner end ≡ false → kept end (x ∷ xs) ≡ kept end xs
kept-out end x xs is = rw is refl

pub kept-between : (end from to : ℕ) (xs : List Span) → AreBetween from to xs → AreBetween from to (filter (λ span. nat_lt span.owner end) xs)
kept-between end from to [] between = between
kept-between end from to (x ∷ xs) between = by (nat_lt x.owner end) refl (kept-between end x.hi to xs between.2)
  where
    by : (b : Bool) → nat_lt x.owner end ≡ b → AreBetween x.hi to (kept end xs) → AreBetween from to (kept end (x ∷ xs))
    by true is more = subst (λ (ys : List Span). AreBetween from to ys) (sym (kept-in end x xs is)) (between.0, between.1, more)
    by false is more = subst (λ (ys : List Span). AreBetween from to ys) (sym (kept-out end x xs is)) (AreBetween-lower x.hi from to (kept end xs) more (omega (arith, between.0, between.1)))

before_end : (a : ℕ) (x : Span) → span_holds a x ≡ true → a < x.hi
before_end a x is = grind (arith, nat_tests)

pub kept-owner : (end from to a : ℕ) (xs : List Span) → AreBetween from to xs → owner_at (filter (λ span. nat_lt span.owner end) xs) a ≡ only end (owner_at xs a)
kept-owner end from to a [] between = refl
kept-owner end from to a (x ∷ xs) between = by (nat_lt x.owner end) (span_holds a x) refl refl (kept-owner end x.hi to a xs between.2)
  where
    by : (b h : Bool) → nat_lt x.owner end ≡ b → span_holds a x ≡ h → owner_at (kept end xs) a ≡ only end (owner_at xs a) → owner_at (kept end (x ∷ xs)) a ≡ only end (owner_at (x ∷ xs) a)
    by true true is hit more =
        ap (λ (ys : List Span). owner_at ys a) (kept-in end x xs is) ∙ owner-hit x (kept end xs) a hit
        ∙ sym (ap (only end) (owner-hit x xs a hit) ∙ ap (λ b. cond b (Some x.owner) None) is)
    by true false is miss more =
        ap (λ (ys : List Span). owner_at ys a) (kept-in end x xs is) ∙ owner-miss x (kept end xs) a miss ∙ more
        ∙ sym (ap (only end) (owner-miss x xs a miss))
    by false true is hit more =
        ap (λ (ys : List Span). owner_at ys a) (kept-out end x xs is)
        ∙ owner-before x.hi to a (kept end xs) (kept-between end x.hi to xs between.2) (before_end a x hit)
        ∙ sym (ap (only end) (owner-hit x xs a hit) ∙ ap (λ b. cond b (Some x.owner) None) is)
    by false false is miss more =
        ap (λ (ys : List Span). owner_at ys a) (kept-out end x xs is) ∙ more
        ∙ sym (ap (only end) (owner-miss x xs a miss))

-- the first function that holds an address, among some members
abbrev first_of : ℕ → List (ℕ × Member) → Option ℕ
first_of a xs = option_map (λ (m : ℕ × Member). m.0) (find (λ m. holds_at 0 a m.1) xs)

first-hit : (a : ℕ) (x : ℕ × Member) (xs : List (ℕ × Member)) → holds_at 0 a x.1 ≡ true → first_of a (x ∷ xs) ≡ Some x.0
first-hit a x xs hit = rw hit refl

first-miss : (a : ℕ) (x : ℕ × Member) (xs : List (ℕ × Member)) → holds_at 0 a x.1 ≡ false → first_of a (x ∷ xs) ≡ first_of a xs
first-miss a x xs miss = rw miss refl

-- the innermost of those behind, where the function is asked for
abbrev chosen : List Bool → Option ℕ → Option ℕ → Option ℕ
chosen marks function innermost = if asks marks function then innermost else None

only-below : (end : ℕ) (o : Option ℕ) → ((n : ℕ) → o ≡ Some n → n < end) → only end o ≡ o
only-below end None below = refl
only-below end (Some n) below = ap (λ b. cond b (Some n) None) (less n end (below n refl))
  where
    less : (m n : ℕ) → m < n → nat_lt m n ≡ true
    less m n lt = grind (arith, nat_tests)

only-nobody : (end : ℕ) → only end (Some end) ≡ None
only-nobody end = ap (λ b. cond b (Some end) None) (let e : nat_lt end end ≡ false = not_less end in e)
  where
    not_less : (n : ℕ) → nat_lt n n ≡ false
    not_less n = grind (arith, nat_tests)

at_zero : (n : ℕ) → (n == 0) ≡ true → n ≡ 0
at_zero n is = grind (arith, nat_tests)

deeper : (n : ℕ) → (n == 0) ≡ false → 0 < n
deeper n is = grind (arith, nat_tests)

-- one function, and those behind it
from-function : (marks : List Bool) (nobody a : ℕ) (x : ℕ × Member) (xs : List (ℕ × Member)) → (x.1.depth == 0) ≡ true
    → owned_from marks nobody a (x ∷ xs) ≡ option_or (owned_by_function marks nobody a x xs) (owned_from marks nobody a xs)
from-function marks nobody a x xs is = ap (λ b. option_or (cond b (owned_by_function marks nobody a x xs) None) (owned_from marks nobody a xs)) is

from-call : (marks : List Bool) (nobody a : ℕ) (x : ℕ × Member) (xs : List (ℕ × Member)) → (x.1.depth == 0) ≡ false
    → owned_from marks nobody a (x ∷ xs) ≡ owned_from marks nobody a xs
from-call marks nobody a x xs is = ap (λ b. option_or (cond b (owned_by_function marks nobody a x xs) None) (owned_from marks nobody a xs)) is

-- what a function owns, by whether it is asked for and holds the address
abbrev by_tests : Bool → Bool → ℕ → ℕ → Option ℕ → Option ℕ
by_tests asked held nobody function inner =
    cond asked (framed_owner (cond held (Some function) None) inner) (cond held (Some nobody) None)

is-by_tests : (marks : List Bool) (nobody a : ℕ) (x : ℕ × Member) (xs : List (ℕ × Member)) (t h : Bool) → is_asked marks x.0 ≡ t → holds a x.1 ≡ h
    → owned_by_function marks nobody a x xs ≡ by_tests t h nobody x.0 (innermost_from 1 a xs)
is-by_tests marks nobody a x xs t h asked held =
    ap (λ b. by_tests b (holds a x.1) nobody x.0 (innermost_from 1 a xs)) asked
    ∙ ap (λ b. by_tests t b nobody x.0 (innermost_from 1 a xs)) held

innermost-by : (a : ℕ) (x : ℕ × Member) (xs : List (ℕ × Member)) (h : Bool) → x.1.depth ≡ 0 → holds a x.1 ≡ h
    → innermost_from 0 a (x ∷ xs) ≡ option_or (framed_owner (cond h (Some x.0) None) (innermost_from 1 a xs)) (innermost_from 0 a xs)
innermost-by a x xs h function held =
    innermost-taken 0 a x xs function
    ∙ ap (λ b. option_or (framed_owner (cond b (Some x.0) None) (innermost_from 1 a xs)) (innermost_from 0 a xs)) held

chosen-only : (marks : List Bool) (nobody a : ℕ) (xs : List (ℕ × Member)) → AllByRecursion (λ m. m.0 < nobody) xs
    → only nobody (owned_from marks nobody a xs) ≡ chosen marks (first_of a xs) (innermost_from 0 a xs)
chosen-only marks nobody a [] all = refl
chosen-only marks nobody a (x ∷ xs) all = by_depth (x.1.depth == 0) refl (chosen-only marks nobody a xs all.1)
  where
    by : (t h : Bool) → (x.1.depth == 0) ≡ true → is_asked marks x.0 ≡ t → holds a x.1 ≡ h
        → only nobody (owned_from marks nobody a xs) ≡ chosen marks (first_of a xs) (innermost_from 0 a xs)
        → only nobody (owned_from marks nobody a (x ∷ xs)) ≡ chosen marks (first_of a (x ∷ xs)) (innermost_from 0 a (x ∷ xs))
    by true true is asked held more =
        let mine = from-function marks nobody a x xs is ∙ ap (λ o. option_or o (owned_from marks nobody a xs)) (is-by_tests marks nobody a x xs true true asked held) in
        let same = mine ∙ sym (innermost-by a x xs true (at_zero x.1.depth is) held) in
        ap (only nobody) same
        ∙ only-below nobody (innermost_from 0 a (x ∷ xs)) (λ n found. innermost-below nobody a n (x ∷ xs) all found)
        ∙ sym (ap (λ o. chosen marks o (innermost_from 0 a (x ∷ xs))) (first-hit a x xs (next 0 a x.1 true (at_zero x.1.depth is) held))
        ∙ ap (λ b. cond b (innermost_from 0 a (x ∷ xs)) None) asked)
    by false true is asked held more =
        let mine = from-function marks nobody a x xs is ∙ ap (λ o. option_or o (owned_from marks nobody a xs)) (is-by_tests marks nobody a x xs false true asked held) in
        ap (only nobody) mine
        ∙ only-nobody nobody
        ∙ sym (ap (λ o. chosen marks o (innermost_from 0 a (x ∷ xs))) (first-hit a x xs (next 0 a x.1 true (at_zero x.1.depth is) held))
        ∙ ap (λ b. cond b (innermost_from 0 a (x ∷ xs)) None) asked)
    by true false is asked held more =
        let mine = from-function marks nobody a x xs is ∙ ap (λ o. option_or o (owned_from marks nobody a xs)) (is-by_tests marks nobody a x xs true false asked held) in
        ap (only nobody) mine ∙ more
        ∙ ap (λ o. chosen marks o (innermost_from 0 a xs)) (sym (first-miss a x xs (next 0 a x.1 false (at_zero x.1.depth is) held)))
        ∙ ap (chosen marks (first_of a (x ∷ xs))) (sym (innermost-by a x xs false (at_zero x.1.depth is) held))
    by false false is asked held more =
        let mine = from-function marks nobody a x xs is ∙ ap (λ o. option_or o (owned_from marks nobody a xs)) (is-by_tests marks nobody a x xs false false asked held) in
        ap (only nobody) mine ∙ more
        ∙ ap (λ o. chosen marks o (innermost_from 0 a xs)) (sym (first-miss a x xs (next 0 a x.1 false (at_zero x.1.depth is) held)))
        ∙ ap (chosen marks (first_of a (x ∷ xs))) (sym (innermost-by a x xs false (at_zero x.1.depth is) held))

    by_depth : (b : Bool) → (x.1.depth == 0) ≡ b → only nobody (owned_from marks nobody a xs) ≡ chosen marks (first_of a xs) (innermost_from 0 a xs)
        → only nobody (owned_from marks nobody a (x ∷ xs)) ≡ chosen marks (first_of a (x ∷ xs)) (innermost_from 0 a (x ∷ xs))
    by_depth true is more = by (is_asked marks x.0) (holds a x.1) is refl refl more
    by_depth false is more =
        ap (only nobody) (from-call marks nobody a x xs is)
        ∙ more
        ∙ ap (λ o. chosen marks o (innermost_from 0 a xs)) (sym (first-miss a x xs (not_next 0 a x.1 (deeper x.1.depth is))))
        ∙ ap (chosen marks (first_of a (x ∷ xs))) (sym (innermost-passed 0 a x xs (deeper x.1.depth is)))

-- the cover of the functions that are asked for
pub asked-whole : (marks : List Bool) (members : List Member) (spans all made : List Span)
    → ((a : ℕ) → owner_at spans a ≡ owned_from marks (length members) a (numbered members))
    → AreDisjoint all → ((a : ℕ) → owner_at all a ≡ owner_at spans a) → made ≡ filter (λ span. nat_lt span.owner (length members)) all
    → (a : ℕ) → owner_at made a ≡ innermost_asked marks members a
asked-whole marks members spans all made owners disjoint same is a =
    ap (λ (ss : List Span). owner_at ss a) is
    ∙ kept-owner (length members) 0 (2 ^ 64 - 1) a all disjoint
    ∙ ap (only (length members)) (same a ∙ owners a)
    ∙ chosen-only marks (length members) a (numbered members) (numbers-all 0 (length members) members (omega arith))
    ∙ ap (chosen marks (function_at members a)) (sym (innermost-pass members a))

pub asked-disjoint : (end : ℕ) (all made : List Span) → AreDisjoint all → made ≡ filter (λ span. nat_lt span.owner end) all → AreDisjoint made
asked-disjoint end all made disjoint is = subst (λ (ss : List Span). AreDisjoint ss) (sym is) (kept-between end 0 (2 ^ 64 - 1) all disjoint)

-- with no marks all are asked for
pub asks-all : (function : Option ℕ) → asks [] function ≡ true
asks-all None = refl
asks-all (Some zero) = refl
asks-all (Some (suc n)) = refl

pub asked-all : (members : List Member) (a : ℕ) → innermost_asked [] members a ≡ innermost members a
asked-all members a = ap (λ b. cond b (innermost members a) None) (asks-all (function_at members a))

pub asked-there : (marks : List Bool) (members : List Member) (a n : ℕ) → innermost_asked marks members a ≡ Some n → n < length members
asked-there marks members a n is = by (asks marks (function_at members a)) is
  where
    by : (b : Bool) → cond b (innermost members a) None ≡ Some n → n < length members
    by true found = innermost-there members a n found
    by false found = absurd (cc)
