-- Sums of calls, with one place more or one other sum.
use Rattle.std.proofs.Common.{◌≡◌, ℕ, zero, suc, ◌+◌, ◌<◌, ◌==◌, ◌||◌, Bool, true, false, cond, not, List, [], ◌∷◌, ◌++◌, length, get_or, set, position, Option, None, Some, refl, sym, ap, subst, ◌∙◌, arith, true≢false, if◌then◌else◌}
use Rattle.std.specs.Prelude.{is_some, IsSome}
use Rattle.std.proofs.lemmas.Bool.Decides.{nat_tests}
use Rattle.std.specs.List.{AllByRecursion, IsDistinct, list_any, position_or_len}
use Rattle.std.specs.Map.{keys_of, lookup}
use Rattle.std.specs.Option.{unwrap_or}
use Rattle.std.proofs.lemmas.Bool.{eqb-true}
use Rattle.std.proofs.lemmas.List.{map_push}
use Rattle.std.proofs.lemmas.Map.{none_passes_from_lookup}
use Rattle.std.proofs.Math.Seq.{map-set_same}
use Rattle.indexmap.specs.IndexSet.{insert_key}
use Rattle.indexmap.proofs.MapLemmas.{Found-position, some_index}
use Rattle.key_types.specs.declared.ids.KeyId.{KeyId}
use Rattle.key_types.specs.declared.ids.NameId.{NameId}
use Rattle.profile_tree.proofs.ListLemmas.{all_append, and_first, and_second}
use Rattle.profile_merge.specs.Called.{Target, same_target, called_sum, IsCalled, IsGivenTarget, AreReached, AreWithSum}

pub targets_same : (t u : Target) → same_target t u ≡ true → t ≡ u
targets_same t u h =
    let keys : t.0.0 ≡ u.0.0 = eqb-true _ _ (and_first (t.0.0 == u.0.0) (t.1.0 == u.1.0) h) in
    let names : t.1.0 ≡ u.1.0 = eqb-true _ _ (and_second (t.0.0 == u.0.0) (t.1.0 == u.1.0) h) in
    λ i. (record { 0 = keys i }, record { 0 = names i })

-- what the new list gives where one target got a value
abbrev pub Gives : List (Target × ℕ) → Target → ℕ → List (Target × ℕ) → Type 0
Gives old t sum new = (q : Target) → lookup (same_target q) new ≡ cond (same_target t q) (Some sum) (lookup (same_target q) old)

still_called : (old new : List (Target × ℕ)) (t : Target) (sum : ℕ) → Gives old t sum new → (k : KeyId) (n : NameId) → IsCalled old k n → IsCalled new k n
still_called old new t sum gives k n there =
    subst IsSome (sym (gives (k, n))) (by (same_target t (k, n)))
  where
    by : (b : Bool) → IsSome (cond b (Some sum) (lookup (same_target (k, n)) old))
    by true = refl
    by false = there

-- a target without a place gets one
pub reached_new : (old new : List (Target × ℕ)) (k : KeyId) (n : NameId)
    → lookup (same_target (k, n)) old ≡ None → Gives old (k, n) 0 new → new ≡ old ++ ((k, n), 0) ∷ [] → IsDistinct same_target (keys_of new) → AreReached old new k n
reached_new old new k n none gives is once = record {
  same = λ l m. ap (λ found. unwrap_or found 0) (gives (l, m)) ∙ by l m (same_target (k, n) (l, m)) refl;
  kept = still_called old new (k, n) 0 gives;
  of = λ names keys key name are. record {
    given = subst (AllByRecursion (IsGivenTarget names keys)) (sym (ap keys_of is ∙ map_push (λ (e : Target × ℕ). e.0) old ((k, n), 0)))
        (all_append (IsGivenTarget names keys) (keys_of old) ((k, n) ∷ []) are.given ((key, name), tt));
    once = once;
  };
}
  where
    by : (l : KeyId) (m : NameId) (b : Bool) → same_target (k, n) (l, m) ≡ b → unwrap_or (cond b (Some 0) (lookup (same_target (l, m)) old)) 0 ≡ called_sum old l m
    by l m true e = ap (λ found. unwrap_or found 0) (sym none) ∙ ap (λ (t : Target). unwrap_or (lookup (same_target t) old) 0) (targets_same (k, n) (l, m) e)
    by l m false e = refl

-- one that has a place keeps it
pub reached_old : (old : List (Target × ℕ)) (k : KeyId) (n : NameId) → AreReached old old k n
reached_old old k n = record { same = λ l m. refl; kept = λ l m there. there; of = λ names keys key name are. are }

-- one with a place gets another sum
pub with_sum : (old new : List (Target × ℕ)) (k : KeyId) (n : NameId) (sum : ℕ) → Gives old (k, n) sum new → keys_of new ≡ keys_of old → AreWithSum old new k n sum
with_sum old new k n sum gives keys = record {
  each = λ l m. ap (λ found. unwrap_or found 0) (gives (l, m)) ∙ by l m (same_target (k, n) (l, m));
  kept = still_called old new (k, n) sum gives;
  of = λ names keys_given are. record {
    given = subst (AllByRecursion (IsGivenTarget names keys_given)) (sym keys) are.given;
    once = subst (IsDistinct same_target) (sym keys) are.once;
  };
}
  where
    by : (l : KeyId) (m : NameId) (b : Bool) → unwrap_or (cond b (Some sum) (lookup (same_target (l, m)) old)) 0 ≡ (if b then sum else called_sum old l m)
    by l m true = refl
    by l m false = refl

pub target_itself : (t : Target) → same_target t t ≡ true
target_itself t = grind (arith, nat_tests)

-- what has no value
pub no_option : {T : Type 0} (o : Option T) → is_some o ≡ false → o ≡ None
no_option None h = refl
no_option (Some x) h = absurd (true≢false h)

-- the first sum of a target stands at this place
abbrev pub At : Target → List (Target × ℕ) → ℕ → Type 0
At t [] i = true ≡ false
At t (s ∷ sums) zero = same_target t s.0 ≡ true
At t (s ∷ sums) (suc i) = (same_target t s.0 ≡ false) × At t sums i

at_first : (t : Target) (sums : List (Target × ℕ)) (i : ℕ) → position_or_len (same_target t) (keys_of sums) ≡ i → i < length sums → At t sums i
at_first t [] i is within = absurd (omega arith)
at_first t (s ∷ sums) i is within = by (same_target t s.0) refl i is within (at_first t sums)
  where
    by : (b : Bool) → same_target t s.0 ≡ b → (i : ℕ) → cond (not b) (1 + position_or_len (same_target t) (keys_of sums)) 0 ≡ i → i < suc (length sums)
        → ((j : ℕ) → position_or_len (same_target t) (keys_of sums) ≡ j → j < length sums → At t sums j) → At t (s ∷ sums) i
    by true e zero is within rest = e
    by true e (suc i) is within rest = absurd (omega (arith, is))
    by false e zero is within rest = absurd (omega (arith, is))
    by false e (suc i) is within rest = (e, rest i (omega (arith, is)) (omega (arith, within)))

-- where a set of the targets finds one
pub at_place : (t : Target) (sums : List (Target × ℕ)) (targets : List Target) (i : ℕ) → targets ≡ keys_of sums → Some i ≡ position (same_target t) targets → At t sums i
at_place t sums targets i indexed found =
    let place = Found-position (same_target t) sums i (ap (position (same_target t)) (sym indexed) ∙ sym found) in
    at_first t sums i place.or_len place.within

pub lookup-at : (t : Target) (sums : List (Target × ℕ)) (i : ℕ) (s : Target × ℕ) → At t sums i → s ≡ get_or sums i s → lookup (same_target t) sums ≡ Some s.1
lookup-at t [] i s at is = absurd (true≢false at)
lookup-at t (r ∷ sums) zero s at is = ap (λ b. cond b (Some r.1) (lookup (same_target t) sums)) at ∙ ap (λ (u : Target × ℕ). Some u.1) (sym is)
lookup-at t (r ∷ sums) (suc i) s at is = ap (λ b. cond b (Some r.1) (lookup (same_target t) sums)) at.0 ∙ lookup-at t sums i s at.1 is

pub absent-place : (t : Target) (sums : List (Target × ℕ)) (targets : List Target) → targets ≡ keys_of sums → None ≡ position (same_target t) targets → lookup (same_target t) sums ≡ None
absent-place t sums targets indexed none =
    no_option _ (sym (some_index (same_target t) sums) ∙ ap is_some (ap (position (same_target t)) (sym indexed) ∙ sym none))

-- a sum of another target stands before
past : (t q : Target) (s : Target × ℕ) (found : Option ℕ) (sum : ℕ) → same_target t s.0 ≡ false
    → cond (same_target q s.0) (Some s.1) (cond (same_target t q) (Some sum) found) ≡ cond (same_target t q) (Some sum) (cond (same_target q s.0) (Some s.1) found)
past t q s found sum other = by (same_target t q) refl
  where
    by : (b : Bool) → same_target t q ≡ b → cond (same_target q s.0) (Some s.1) (cond b (Some sum) found) ≡ cond b (Some sum) (cond (same_target q s.0) (Some s.1) found)
    by true e = ap (λ c. cond c (Some s.1) (Some sum)) (ap (λ (u : Target). same_target u s.0) (sym (targets_same t q e)) ∙ other)
    by false e = refl

targets_swap : (t q : Target) → same_target q t ≡ same_target t q
targets_swap t q = by (same_target t q) refl (same_target q t) refl
  where
    by : (b : Bool) → same_target t q ≡ b → (c : Bool) → same_target q t ≡ c → same_target q t ≡ same_target t q
    by true e c f = ap (λ (u : Target). same_target u t) (sym (targets_same t q e)) ∙ ap (same_target t) (targets_same t q e)
    by false e true f = ap (λ (u : Target). same_target u t) (targets_same q t f) ∙ sym (ap (same_target t) (targets_same q t f))
    by false e false f = f ∙ sym e

-- one that has a place gets another sum there
gives-at : (t : Target) (sums : List (Target × ℕ)) (i sum : ℕ) (s : Target × ℕ) → At t sums i → s ≡ get_or sums i s → Gives sums t sum (set sums i (s.0, sum))
gives-at t [] i sum s at is q = absurd (true≢false at)
gives-at t (r ∷ sums) zero sum s at is q =
    let here : same_target q r.0 ≡ same_target t q = ap (same_target q) (sym (targets_same t r.0 at)) ∙ targets_swap t q in
    let there : same_target q s.0 ≡ same_target t q = ap (λ (u : Target × ℕ). same_target q u.0) is ∙ here in
    ap (λ b. cond b (Some sum) (lookup (same_target q) sums)) there ∙ by (same_target t q)
    ∙ sym (ap (λ b. cond (same_target t q) (Some sum) (cond b (Some r.1) (lookup (same_target q) sums))) here)
  where
    by : (b : Bool) → cond b (Some sum) (lookup (same_target q) sums) ≡ cond b (Some sum) (cond b (Some r.1) (lookup (same_target q) sums))
    by true = refl
    by false = refl
gives-at t (r ∷ sums) (suc i) sum s at is q =
    ap (cond (same_target q r.0) (Some r.1)) (gives-at t sums i sum s at.1 is q) ∙ past t q r (lookup (same_target q) sums) sum at.0

pub keys-at : (sums : List (Target × ℕ)) (i sum : ℕ) (s : Target × ℕ) → s ≡ get_or sums i s → keys_of (set sums i (s.0, sum)) ≡ keys_of sums
keys-at sums i sum s is = map-set_same (λ (e : Target × ℕ). e.0) sums i (s.0, sum) s (ap (λ (e : Target × ℕ). e.0) is)

pub with_sum_at : (sums : List (Target × ℕ)) (k : KeyId) (n : NameId) (i sum : ℕ) (s : Target × ℕ) → At (k, n) sums i → s ≡ get_or sums i s → AreWithSum sums (set sums i (s.0, sum)) k n sum
with_sum_at sums k n i sum s at is = with_sum sums _ k n sum (gives-at (k, n) sums i sum s at is) (keys-at sums i sum s is)

-- one that has none gets the last place
gives-push : (t : Target) (sums : List (Target × ℕ)) → AllByRecursion (λ (s : Target × ℕ). same_target t s.0 ≡ false) sums → Gives sums t 0 (sums ++ (t, 0) ∷ [])
gives-push t [] none q = ap (λ b. cond b (Some 0) None) (targets_swap t q)
gives-push t (s ∷ sums) none q =
    ap (cond (same_target q s.0) (Some s.1)) (gives-push t sums none.1 q) ∙ past t q s (lookup (same_target q) sums) 0 none.0

-- a set of the targets has those with a sum
pub has_sum : (t : Target) (sums : List (Target × ℕ)) → list_any (same_target t) (keys_of sums) ≡ is_some (lookup (same_target t) sums)
has_sum t [] = refl
has_sum t (s ∷ sums) = by (same_target t s.0) (has_sum t sums)
  where
    by : (b : Bool) → list_any (same_target t) (keys_of sums) ≡ is_some (lookup (same_target t) sums) → (b || list_any (same_target t) (keys_of sums)) ≡ is_some (cond b (Some s.1) (lookup (same_target t) sums))
    by true rest = refl
    by false rest = rest

pub gives-new : (sums : List (Target × ℕ)) (targets : List Target) (t : Target) → targets ≡ keys_of sums → list_any (same_target t) targets ≡ false → Gives sums t 0 (sums ++ (t, 0) ∷ [])
gives-new sums targets t indexed new =
    gives-push t sums (none_passes_from_lookup (same_target t) sums (no_option _ (sym (has_sum t sums) ∙ ap (list_any (same_target t)) (sym indexed) ∙ new)))

pub reached_push : (sums : List (Target × ℕ)) (targets after : List Target) (k : KeyId) (n : NameId) → targets ≡ keys_of sums → list_any (same_target (k, n)) targets ≡ false
    → after ≡ insert_key same_target targets (k, n) → IsDistinct same_target after → AreReached sums (sums ++ ((k, n), 0) ∷ []) k n
reached_push sums targets after k n indexed new inserted once =
    let t : Target = (k, n) in
    let none = no_option _ (sym (has_sum t sums) ∙ ap (list_any (same_target t)) (sym indexed) ∙ new) in
    let last : insert_key same_target targets t ≡ targets ++ t ∷ [] = ap (λ b. if b then targets else targets ++ t ∷ []) new in
    let keys : after ≡ keys_of (sums ++ (t, 0) ∷ []) =
    inserted ∙ last ∙ ap (λ l. l ++ t ∷ []) indexed ∙ sym (map_push (λ (e : Target × ℕ). e.0) sums (t, 0)) in
    reached_new sums _ k n none (gives-new sums targets t indexed new) refl (subst (IsDistinct same_target) keys once)

pub called_push : (sums : List (Target × ℕ)) (targets : List Target) (k : KeyId) (n : NameId) → targets ≡ keys_of sums → list_any (same_target (k, n)) targets ≡ false → IsCalled (sums ++ ((k, n), 0) ∷ []) k n
called_push sums targets k n indexed new =
    ap is_some (gives-new sums targets (k, n) indexed new (k, n) ∙ ap (λ b. cond b (Some 0) (lookup (same_target (k, n)) sums)) (target_itself (k, n)))
