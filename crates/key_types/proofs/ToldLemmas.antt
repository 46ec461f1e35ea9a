-- Segments put one behind the other, and what they tell.
use Rattle.std.proofs.Common.{◌≡◌, ℕ, ◌<◌, ◌≤◌, List, [], ◌∷◌, ◌++◌, Option, None, Some, refl, sym, ap, ◌∙◌, arith, map, subst, inl, inr}
use Rattle.std.specs.Prelude.{slice_get, option_and_then, IsSome}
use Rattle.std.specs.Option.{option_map, option_or}
use Rattle.std.specs.List.{AllByRecursion}
use Rattle.std.proofs.lemmas.List.Folds.{find-append}
use Rattle.list_lemmas.proofs.Tests.{by_test}
use Rattle.address_spans.specs.declared.span.Span.{Span}
use Rattle.address_spans.specs.Spans.{holds, AreBetween}
use Rattle.address_spans.proofs.OverlayLemmas.{either}
use Rattle.address_spans.proofs.SpanLemmas.{held, missed-before, missed-behind, reach}
use Rattle.key_types.specs.declared.ids.KeyId.{KeyId}
use Rattle.key_types.specs.declared.key.Key.{Key}
use Rattle.key_types.specs.declared.places.Seg.{Seg}
use Rattle.key_types.specs.Segments.{IsGiven, Kept, TellBelow, span_of, segment_at, key_told, key_and_factor, told}

pub TellBelow-start : (keys : List Key) (wanted : ℕ → Option (Key × ℕ)) → TellBelow 0 keys wanted []
TellBelow-start keys wanted = record { ascend = omega arith; given = tt; tell = λ more kept a below. absurd (omega (arith, below)) }

is_some_some : {X : Type 0} (o : Option X) (x : X) → o ≡ Some x → IsSome o
is_some_some None x is = absurd (cc)
is_some_some (Some y) x is = refl

pub some_of : {X : Type 0} (o : Option X) → IsSome o → (x : X) × (o ≡ Some x)
some_of None is = absurd (cc)
some_of (Some x) is = (x, refl)

given-more : (keys grown : List Key) (segments : List Seg) → Kept keys grown → AllByRecursion (IsGiven keys) segments → AllByRecursion (IsGiven grown) segments
given-more keys grown [] kept all = tt
given-more keys grown (s ∷ segments) kept all =
    let key = some_of (slice_get keys s.key.0) all.0 in
    (is_some_some (slice_get grown s.key.0) key.0 (kept s.key.0 key.0 key.1), given-more keys grown segments kept all.1)

given-push : (keys : List Key) (segments : List Seg) (s : Seg) → AllByRecursion (IsGiven keys) segments → IsGiven keys s → AllByRecursion (IsGiven keys) (segments ++ s ∷ [])
given-push keys [] s all one = (one, tt)
given-push keys (x ∷ segments) s all one = (all.0, given-push keys segments s all.1 one)

pub TellBelow-keys : (bound : ℕ) (keys grown : List Key) (wanted : ℕ → Option (Key × ℕ)) (segments : List Seg) → TellBelow bound keys wanted segments → Kept keys grown → TellBelow bound grown wanted segments
TellBelow-keys bound keys grown wanted segments so_far kept = record {
  ascend = so_far.ascend;
  given = given-more keys grown segments kept so_far.given;
  tell = λ more later a below. so_far.tell more (λ n key is. later n key (kept n key is)) a below;
}

-- from the last end on segments hold nothing
none-behind : (segments : List Seg) (from bound a : ℕ) → AreBetween from bound (map span_of segments) → bound ≤ a → segment_at segments a ≡ None
none-behind [] from bound a ascend behind = refl
none-behind (s ∷ segments) from bound a ascend behind =
    let end = reach s.hi bound (map span_of segments) ascend.2 in
    rw (missed-behind (span_of s) a (omega (arith, end, behind))) (none-behind segments s.hi bound a ascend.2 behind)

pub told-behind : (keys : List Key) (segments : List Seg) (bound a : ℕ) → AreBetween 0 bound (map span_of segments) → bound ≤ a → told keys segments a ≡ None
told-behind keys segments bound a ascend behind = ap (option_and_then (key_and_factor keys)) (none-behind segments 0 bound a ascend behind)

pub AreBetween-wider : (xs : List Span) (from bound more : ℕ) → AreBetween from bound xs → bound ≤ more → AreBetween from more xs
AreBetween-wider [] from bound more all wide = omega arith
AreBetween-wider (x ∷ xs) from bound more all wide = (all.0, all.1, AreBetween-wider xs x.hi bound more all.2 wide)

split : (a bound more : ℕ) → {P : Type 0} → a < more → (a < bound → P) → (bound ≤ a → P) → P
split a bound more below first second = elim (either a bound) [ inl low ↦ first low | inr high ↦ second high ]

-- addresses without keys
pub TellBelow-gap : (bound more : ℕ) (keys : List Key) (wanted : ℕ → Option (Key × ℕ)) (segments : List Seg) → TellBelow bound keys wanted segments → bound ≤ more → ((a : ℕ) → bound ≤ a → a < more → wanted a ≡ None)
    → TellBelow more keys wanted segments
TellBelow-gap bound more keys wanted segments so_far wide none = record {
  ascend = AreBetween-wider (map span_of segments) 0 bound more so_far.ascend wide;
  given = so_far.given;
  tell = λ grown kept a below. split a bound more below (so_far.tell grown kept a) (λ high. told-behind grown segments bound a so_far.ascend high ∙ sym (none a high below));
}

between-push : (segments : List Seg) (s : Seg) (from bound : ℕ) → AreBetween from bound (map span_of segments) → bound ≤ s.lo → s.lo < s.hi → AreBetween from s.hi (map span_of (segments ++ s ∷ []))
between-push [] s from bound all behind full = (omega (arith, all), full, omega arith)
between-push (x ∷ segments) s from bound all behind full = (all.0, all.1, between-push segments s x.hi bound all.2 behind full)

segment-push : (segments : List Seg) (s : Seg) (a : ℕ) → segment_at (segments ++ s ∷ []) a ≡ option_or (segment_at segments a) (segment_at (s ∷ []) a)
segment-push segments s a = find-append (λ segment. holds a (span_of segment)) segments (s ∷ [])

or_none : (o : Option Seg) → option_or o None ≡ o
or_none None = refl
or_none (Some s) = refl

-- one more segment
pub TellBelow-push : (keys : List Key) (wanted : ℕ → Option (Key × ℕ)) (segments : List Seg) (s : Seg) (key : Key) → TellBelow s.lo keys wanted segments → s.lo < s.hi → slice_get keys s.key.0 ≡ Some key
    → ((a : ℕ) → s.lo ≤ a → a < s.hi → wanted a ≡ Some (key, s.factor)) → TellBelow s.hi keys wanted (segments ++ s ∷ [])
TellBelow-push keys wanted segments s key so_far full is here = record {
  ascend = between-push segments s 0 s.lo so_far.ascend (omega arith) full;
  given = given-push keys segments s so_far.given (is_some_some (slice_get keys s.key.0) key is);
  tell = λ grown kept a below. split a s.lo s.hi below
      (λ low.
      let before : segment_at (s ∷ []) a ≡ None = rw (missed-before (span_of s) a low) refl in
      ap (option_and_then (key_and_factor grown)) (segment-push segments s a ∙ ap (option_or (segment_at segments a)) before ∙ or_none (segment_at segments a))
      ∙ so_far.tell grown kept a low)
      (λ high.
      let inside : segment_at (s ∷ []) a ≡ Some s = rw (held (span_of s) a high below) refl in
      ap (option_and_then (key_and_factor grown)) (segment-push segments s a ∙ ap (λ o. option_or o (segment_at (s ∷ []) a)) (none-behind segments 0 s.lo a so_far.ascend high) ∙ inside)
      ∙ ap (option_map (λ k. (k, s.factor))) (kept s.key.0 key is)
      ∙ sym (here a high below));
}

-- where nothing has a key from a bound on, segments tell all addresses
pub TellBelow-all : (bound : ℕ) (keys : List Key) (wanted : ℕ → Option (Key × ℕ)) (segments : List Seg) → TellBelow bound keys wanted segments → ((a : ℕ) → bound ≤ a → wanted a ≡ None)
    → (a : ℕ) → told keys segments a ≡ wanted a
TellBelow-all bound keys wanted segments so_far none a = elim (either a bound) [
  | inl low ↦ so_far.tell keys (λ n key is. is) a low
  | inr high ↦ told-behind keys segments bound a so_far.ascend high ∙ sym (none a high)
]

-- the key of a segment that holds an address
given-at : (keys : List Key) (segments : List Seg) (a : ℕ) (s : Seg) → AllByRecursion (IsGiven keys) segments → segment_at segments a ≡ Some s → IsGiven keys s
given-at keys [] a s all is = absurd (cc)
given-at keys (x ∷ segments) a s all is = by_test (holds a (span_of x))
    (λ hit. let one : segment_at (x ∷ segments) a ≡ Some x = rw hit refl in let same : x ≡ s = cc in subst (λ (y : Seg). IsGiven keys y) same all.0)
    (λ miss. let rest : segment_at (x ∷ segments) a ≡ segment_at segments a = rw miss refl in given-at keys segments a s all.1 (sym rest ∙ is))

-- what is told where a segment holds an address, and where none does
pub record Told (keys : List Key) (segments : List Seg) (a : ℕ) (id : KeyId) : Type 0 where
  pub key : Key
  pub factor : ℕ
  pub number : slice_get keys id.0 ≡ Some key
  pub both : told keys segments a ≡ Some (key, factor)

told-by : (keys : List Key) (segments : List Seg) (a : ℕ) (id : KeyId) (o : Option Seg) → segment_at segments a ≡ o → AllByRecursion (IsGiven keys) segments → option_map (λ s. s.key) o ≡ Some id → Told keys segments a id
told-by keys segments a id None at all is = absurd (cc)
told-by keys segments a id (Some s) at all is =
    let key = some_of (slice_get keys s.key.0) (given-at keys segments a s all at) in
    let same : s.key ≡ id = cc in record {
      key = key.0;
      factor = s.factor;
      number = ap (λ (i : KeyId). slice_get keys i.0) (sym same) ∙ key.1;
      both = ap (option_and_then (key_and_factor keys)) at ∙ ap (option_map (λ k. (k, s.factor))) key.1;
    }

pub told-some : (keys : List Key) (segments : List Seg) (a : ℕ) (id : KeyId) → AllByRecursion (IsGiven keys) segments → key_told segments a ≡ Some id → Told keys segments a id
told-some keys segments a id all is = told-by keys segments a id (segment_at segments a) refl all is

pub told-none : (keys : List Key) (segments : List Seg) (a : ℕ) → key_told segments a ≡ None → told keys segments a ≡ None
told-none keys segments a is = by (segment_at segments a) refl is
  where
    by : (o : Option Seg) → segment_at segments a ≡ o → option_map (λ s. s.key) o ≡ None → told keys segments a ≡ None
    by None at is = ap (option_and_then (key_and_factor keys)) at
    by (Some s) at is = absurd (cc)
