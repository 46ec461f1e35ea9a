-- Counts over segments are counts over addresses.
use Rattle.std.proofs.Common.{◌≡◌, ◌⊎◌, ◌≤◌, ◌<◌, ℕ, ◌*◌, true, false, cond, List, [], ◌∷◌, Option, Some, refl, ap, ◌∙◌, inl, inr, arith}
use Rattle.std.specs.Prelude.{unwrap_or}
use Rattle.std.specs.Option.{option_map}
use Rattle.std.specs.List.{AllByRecursion}
use Rattle.std.proofs.lemmas.Bool.Decides.{nat_tests}
use Rattle.address_spans.specs.Spans.{holds}
use Rattle.address_spans.proofs.SpanLemmas.{held, missed-behind}
use Rattle.key_types.specs.declared.places.Seg.{Seg}
use Rattle.key_types.specs.Segments.{segment_at, span_of}
use Rattle.profile_lists.specs.Laws.{place_by, factor_by, CountsAreThoseOfPlaces}
use Rattle.profile_lists.specs.Segments.{Attains, GivesNoMore, OneIs}
use Rattle.profile_lists.proofs.CountLemmas.{LieFrom}

held_from : (a : ℕ) (s : Seg) → holds a (span_of s) ≡ true → s.lo ≤ a
held_from a s h = grind (arith, nat_tests)

held_below : (a : ℕ) (s : Seg) → holds a (span_of s) ≡ true → a < s.hi
held_below a s h = grind (arith, nat_tests)

-- what the segment that holds an address tells of it
key_in : Option Seg → Option ℕ
key_in segment = option_map (λ s. s.key.0) segment

factor_in : Option Seg → ℕ
factor_in segment = unwrap_or (option_map (λ s. s.factor) segment) 1

here : (a : ℕ) (s : Seg) (segments : List Seg) → s.lo ≤ a → a < s.hi → segment_at (s ∷ segments) a ≡ Some s
here a s segments from below = ap (λ b. cond b (Some s) (segment_at segments a)) (held (span_of s) a from below)

behind : (a : ℕ) (s : Seg) (segments : List Seg) → s.hi ≤ a → segment_at (s ∷ segments) a ≡ segment_at segments a
behind a s segments h = ap (λ b. cond b (Some s) (segment_at segments a)) (missed-behind (span_of s) a h)

-- what one of the segments gives, the map of places gives
given : (from : ℕ) (segments : List Seg) (hits : ℕ → ℕ) (key count : ℕ) → LieFrom from segments → OneIs (Attains hits key count) segments → (a : ℕ) × (from ≤ a) × (place_by segments a ≡ Some key) × (hits a * factor_by segments a ≡ count)
unfolding key_in factor_in
given from [] hits key count up one = absurd one
given from (s ∷ segments) hits key count up one =
    elim one as (λ _. (a : ℕ) × (from ≤ a) × (place_by (s ∷ segments) a ≡ Some key) × (hits a * factor_by (s ∷ segments) a ≡ count)) [
      | inl g ↦
          let h : segment_at (s ∷ segments) g.at ≡ Some s = here g.at s segments g.from g.below in (
            g.at,
            omega (arith, up.0, g.from),
            ap key_in h ∙ ap (λ n. Some n) g.key_is,
            ap (λ o. hits g.at * factor_in o) h ∙ g.count_is,
          )
      | inr o ↦
          let r = given s.hi segments hits key count up.2 o in
          let h : segment_at (s ∷ segments) r.0 ≡ segment_at segments r.0 = behind r.0 s segments r.1 in (
            r.0,
            omega (arith, up.0, up.1, r.1),
            ap key_in h ∙ r.2,
            ap (λ o. hits r.0 * factor_in o) h ∙ r.3,
          )
    ]

-- what the map of places gives is no more
no_more : (segments : List Seg) (hits : ℕ → ℕ) (key count a : ℕ) → AllByRecursion (GivesNoMore hits key count) segments → place_by segments a ≡ Some key → hits a * factor_by segments a ≤ count
unfolding key_in factor_in
no_more [] hits key count a all e = cc
no_more (s ∷ segments) hits key count a all e =
    elim (holds a (span_of s)) as (λ b. holds a (span_of s) ≡ b → key_in (cond b (Some s) (segment_at segments a)) ≡ Some key → hits a * factor_in (cond b (Some s) (segment_at segments a)) ≤ count) [
      | true ↦ λ h k. all.0 a (held_from a s h) (held_below a s h) (cc)
      | false ↦ λ _ rest. no_more segments hits key count a all.1 rest
    ] refl e

pub counts_are_those_of_places : CountsAreThoseOfPlaces
counts_are_those_of_places segments hits key count up is = record {
  attained = elim (is.attained) as (λ _. (count ≡ 0) ⊎ ((a : ℕ) × (place_by segments a ≡ Some key) × (hits a * factor_by segments a ≡ count))) [
    | inl z ↦ inl z
    | inr o ↦ let r = given 0 segments hits key count up o in inr (r.0, r.2, r.3)
  ];
  largest = λ a e. no_more segments hits key count a is.largest e;
}
