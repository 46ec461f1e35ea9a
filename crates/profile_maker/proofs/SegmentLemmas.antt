-- The segments of a map, one by one.
use Rattle.std.proofs.Common.{◌≡◌, ℕ, ◌<◌, ◌≤◌, ◌-◌, ◌^◌, ◌==◌, zero, suc, Bool, true, false, List, [], ◌∷◌, length, map, Option, None, Some, refl, sym, ap, subst, ◌∙◌, arith, inl, inr}
use Rattle.std.specs.Prelude.{slice_get, unwrap_or, option_and_then, if◌then◌else◌}
use Rattle.std.specs.Option.{option_map}
use Rattle.std.specs.List.{AllByRecursion}
use Rattle.std.proofs.lemmas.Bool.{cases_Bool}
use Rattle.std.proofs.lemmas.Bool.Decides.{nat_tests}
use Rattle.std.proofs.lemmas.Option.{slice_get_within, none-some}
use Rattle.address_spans.specs.Spans.{AreBetween}
use Rattle.address_spans.proofs.SpanLemmas.{held, missed-behind}
use Rattle.key_types.specs.Discriminators as packed
use Rattle.key_types.specs.declared.key.Key.{Key}
use Rattle.key_types.specs.declared.places.Seg.{Seg}
use Rattle.chain_model.specs.declared.member.Member.{Member}
use Rattle.chain_model.specs.Chains.{function_at}
use Rattle.chain_model.specs.Places.{LineAndDisc, Place, chain_members, factor_at, has_key, nameless, no_line, outside, place_at, row_of}
use Rattle.key_types.specs.Segments.{HasSegment, IsGiven, key_told, segment_at, span_of, told, key_and_factor}
use Rattle.key_types.proofs.ToldLemmas.{some_of}
use Rattle.context_map.specs.Parts.{with_factor}
use Rattle.context_map.specs.Maps.{wanted, rows_of}
use Rattle.profile_lists.specs.Segments.{AllFit}
use Rattle.span_cover.specs.Asked.{asks}
use Rattle.binary_model.specs.Binary.{tables_in}
use Rattle.binary_places.specs.Binary.{IsPlaced, asks_in}
use Rattle.binary_places.specs.declared.binary.Placed.{Placed}
use Rattle.binary_places.proofs.FunctionLemmas.{function_same}
use Rattle.profile_maker.specs.MapLaws.{SegmentsFit}

-- ---- a segment holds its first address

first : (s : Seg) (segments : List Seg) (from to : ℕ) → AreBetween from to (map span_of (s ∷ segments)) → segment_at (s ∷ segments) s.lo ≡ Some s
first s segments from to ascend = rw (held (span_of s) s.lo (omega arith) ascend.1) refl

later : (s : Seg) (segments : List Seg) (a : ℕ) → s.hi ≤ a → segment_at (s ∷ segments) a ≡ segment_at segments a
later s segments a behind = rw (missed-behind (span_of s) a behind) refl

-- an address whose segment has a key
pub record HoldsKey (n from : ℕ) (segments : List Seg) : Type 0 where
  pub at : ℕ
  pub low : from ≤ at
  pub segment : Seg
  pub is : segment_at segments at ≡ Some segment
  pub key_is : segment.key.0 ≡ n

pub address_of_key : (n from to : ℕ) (segments : List Seg) → AreBetween from to (map span_of segments) → HasSegment segments n → HoldsKey n from segments
address_of_key n from to [] ascend (i, within, is) = absurd (omega (arith, within))
address_of_key n from to (s ∷ segments) ascend (zero, within, is) =
    record { at = s.lo; low = ascend.0; segment = s; is = first s segments from to ascend; key_is = is }
address_of_key n from to (s ∷ segments) ascend (suc i, within, is) =
    let r = address_of_key n s.hi to segments ascend.2 (i, omega (arith, within), is) in
    record { at = r.at; low = omega (arith, r.low, ascend.0, ascend.1); segment = r.segment; is = later s segments r.at r.low ∙ r.is; key_is = r.key_is }

-- ---- factors

component-small : (d : ℕ) → packed.component d < 4096
component-small d = grind (arith, nat_tests)

packed-small : (d : ℕ) → packed.factor d < 4096
packed-small d = by (packed.component (packed.rest d) == 0) (packed.component (packed.rest d)) (component-small (packed.rest d))
  where
    by : (b : Bool) (n : ℕ) → n < 4096 → (if b then 1 else n) < 4096
    by true n small = omega arith
    by false n small = small

row-small : (base : Bool) (row : Option LineAndDisc) → unwrap_or (option_map (λ (row : LineAndDisc). if base then packed.factor row.1 else 1) row) 1 < 4096
row-small base None = omega arith
row-small true (Some row) = packed-small row.1
row-small false (Some row) = omega arith

factor-small : (rows : ℕ → ℕ → Option LineAndDisc) (base : Bool) (members : List Member) (a : ℕ) → factor_at rows base members a < 4096
factor-small rows base members a = row-small base (row_of rows (chain_members members a) a)

factor_in : Option (Key × ℕ) → ℕ
factor_in None = 0
factor_in (Some p) = p.1

factor-is : (p : Place) (factor : ℕ) (key : Key) (other : ℕ) → with_factor p factor ≡ Some (key, other) → factor ≡ other
unfolding factor_in
factor-is outside factor key other is = absurd (none-some (key, other) is)
factor-is nameless factor key other is = absurd (none-some (key, other) is)
factor-is no_line factor key other is = absurd (none-some (key, other) is)
factor-is (has_key k) factor key other is = ap factor_in is

module _ (rows : ℕ → ℕ → Option LineAndDisc) (base : Bool) (members : List Member) (keys : List Key) (whole : List Seg)
    (tell : (a : ℕ) (p : Key × ℕ) → told keys whole a ≡ Some p → told keys whole a ≡ wanted rows base members a) where
  fit : (from to : ℕ) (rest : List Seg) → AreBetween from to (map span_of rest) → AllByRecursion (IsGiven keys) rest
      → ((a : ℕ) → from ≤ a → segment_at whole a ≡ segment_at rest a) → AllFit (length keys) rest
  fit from to [] ascend given same = tt
  fit from to (s ∷ rest) ascend given same =
      let key = some_of (slice_get keys s.key.0) given.0 in
      let here : told keys whole s.lo ≡ Some (key.0, s.factor) =
      ap (option_and_then (key_and_factor keys)) (same s.lo ascend.0 ∙ first s rest from to ascend) ∙ ap (option_map (λ k. (k, s.factor))) key.1 in
      let factor : factor_at rows base members s.lo ≡ s.factor =
      factor-is (place_at rows base members s.lo) (factor_at rows base members s.lo) key.0 s.factor (sym (tell s.lo (key.0, s.factor) here) ∙ here) in (
        slice_get_within keys s.key.0 key.0 key.1,
        subst (λ n. n < 4096) factor (factor-small rows base members s.lo),
        fit s.hi to rest ascend.2 given.1 (λ a behind. same a (omega (arith, behind, ascend.0, ascend.1)) ∙ later s rest a behind),
      )

-- ---- segments stand where their functions were asked for

no_segment : (segment : Option Seg) → option_map (λ (s : Seg). s.key) segment ≡ None → segment ≡ None
no_segment None is = refl
no_segment (Some s) is = absurd (cc)

module _ (file : List ℕ) (base : Bool) (marks : List Bool) (placed : Placed) (is : IsPlaced file base marks placed) where
  asked_same : (address : ℕ) → asks marks (function_at is.members address) ≡ asks_in file marks address
  asked_same address = ap (asks marks) (function_same file placed.names is.members is.told address)

  -- an address that was asked for is so of the members
  pub asked_of : (address : ℕ) → asks_in file marks address ≡ true → asks marks (function_at is.members address) ≡ true
  asked_of address asked = asked_same address ∙ asked

  -- one that was not has no segment
  pub nothing_at : (address : ℕ) → asks_in file marks address ≡ false → key_told placed.map.segments address ≡ None
  nothing_at address other = is.map.nothing address (asked_same address ∙ other)

  -- and one with a segment was asked for
  pub asked_where : (address : ℕ) (segment : Seg) → segment_at placed.map.segments address ≡ Some segment → asks_in file marks address ≡ true
  asked_where address segment there = elim (cases_Bool (asks_in file marks address)) [
    | inl asked ↦ asked
    | inr other ↦ absurd (none-some segment (sym (no_segment (segment_at placed.map.segments address) (nothing_at address other)) ∙ there))
  ]

  segment_told : (segment : Option Seg) (p : Key × ℕ) → option_and_then (key_and_factor placed.keys) segment ≡ Some p → (s : Seg) × (segment ≡ Some s)
  segment_told None p there = absurd (none-some p there)
  segment_told (Some s) p there = (s, refl)

  tell_there : (a : ℕ) (p : Key × ℕ) → told placed.keys placed.map.segments a ≡ Some p
      → told placed.keys placed.map.segments a ≡ wanted (rows_of (tables_in file)) base is.members a
  tell_there a p there =
      let segment = segment_told (segment_at placed.map.segments a) p there in
      is.map.tell a (asked_of a (asked_where a segment.0 segment.1))

pub segments_fit : SegmentsFit
segments_fit file base marks placed is =
    fit (rows_of (tables_in file)) base is.members placed.keys placed.map.segments (tell_there file base marks placed is) 0 (2 ^ 64 - 1) placed.map.segments is.map.ascend is.map.given (λ a low. refl)
