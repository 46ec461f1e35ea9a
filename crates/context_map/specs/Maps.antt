-- A map of places: what it keeps, what it tells of an address, and what that has to be.
use Rattle.std.specs.Prelude.{◌≡◌, ℕ, Bool, true, false, ◌==◌, List, [], ◌∷◌, slice_get, Option, None, Some, option_and_then, if◌then◌else◌}
use Rattle.std.specs.Option.{option_map, is_some}
use Rattle.std.specs.List.{AllByRecursion}
use Rattle.address_spans.specs.declared.span.Span.{Span}
use Rattle.address_spans.specs.Spans.{AreDisjoint, owner_at}
use Rattle.key_types.specs.declared.ids.KeyId.{KeyId}
use Rattle.key_types.specs.declared.ids.NameId.{NameId}
use Rattle.key_types.specs.declared.key.Key.{Key}
use Rattle.key_types.specs.declared.places.Seg.{Seg}
use Rattle.key_types.specs.declared.places.Where.{Where}
use Rattle.key_types.specs.declared.places.Where.TheVariants.{Outside, Nameless, NoLine, At}
use Rattle.line_model.specs.Rows.{Sequence}
use Rattle.row_table.specs.Told.{told}
use Rattle.chain_model.specs.declared.member.Member.{Member}
use Rattle.chain_model.specs.Chains.{function_at}
use Rattle.chain_model.specs.Places as places
use Rattle.chain_model.specs.Places.{Place, outside, nameless, LineAndDisc, Tells}
use Rattle.span_cover.specs.Asked.{asks}
use Rattle.span_cover.specs.Stretches as stretches
use Rattle.key_types.specs.Segments as segments
use Rattle.context_map.specs.declared.named.NamedPath.{NamedPath}
use Rattle.context_map.specs.Parts.{line_and_disc, with_factor}
use Rattle.context_map.specs.declared.entrance.Entrance.{Entrance}

-- The table of a unit.
abbrev pub table_of : List (Option (List Sequence)) → ℕ → Option (List Sequence)
table_of tables unit = option_and_then (λ table. table) (slice_get tables unit)

-- The row of an address in a unit, by the tables of the units.
abbrev pub rows_of : List (Option (List Sequence)) → ℕ → ℕ → Option LineAndDisc
rows_of tables unit address =
    option_map line_and_disc (option_and_then (λ table. told table address) (table_of tables unit))

-- The key and the factor of an address.
abbrev pub wanted : (ℕ → ℕ → Option LineAndDisc) → Bool → List Member → ℕ → Option (Key × ℕ)
wanted rows base members address =
    with_factor (places.place_at rows base members address) (places.factor_at rows base members address)

-- The place of an address, by the functions that are asked for: where it is not asked for it counts as outside.
abbrev pub place_over : List Bool → (ℕ → ℕ → Option LineAndDisc) → Bool → List Member → ℕ → Place
place_over marks rows base members address =
    if asks marks (function_at members address) then places.place_at rows base members address else outside

-- The key and the factor of an address whose place is asked for.
abbrev pub wanted_over : List Bool → (ℕ → ℕ → Option LineAndDisc) → Bool → List Member → ℕ → Option (Key × ℕ)
wanted_over marks rows base members address =
    with_factor (place_over marks rows base members address) (places.factor_at rows base members address)

-- The place is nameless.
abbrev pub is_nameless : Place → Bool
is_nameless nameless = true
is_nameless _ = false

-- A span, where its chain has no names.
abbrev pub unnamed : Option NamedPath → Span → List Span
unnamed None span = span ∷ []
unnamed (Some named) span = []

-- Segments tell the keys and factors of all addresses that are asked for, and spans hold those of them whose place is
-- nameless.
pub record ArePartsOf (marks : List Bool) (rows : ℕ → ℕ → Option LineAndDisc) (base : Bool) (members : List Member)
    (keys : List Key) (parts : List Seg) (nameless : List Span) : Type 0 where
  pub ascend : segments.AreSegments parts
  pub given : AllByRecursion (segments.IsGiven keys) parts
  pub tell : (address : ℕ) → segments.told keys parts address ≡ wanted_over marks rows base members address
  pub disjoint : AreDisjoint nameless
  pub unnamed : (address : ℕ)
      → is_some (owner_at nameless address) ≡ is_nameless (place_over marks rows base members address)

-- Where a member is entered, and its name. Without pieces it is not entered.
abbrev pub entrance_of : Member → Entrance
entrance_of member = elim member.pieces [
  | [] ↦ record { address = 0; name = None }
  | piece ∷ pieces ↦ record { address = piece.0; name = member.name }
]

-- What a map keeps: segments, the spans of chains with a nameless member, the stretches of functions, and where each
-- member is entered.
pub record Shown : Type 0 where
  pub segments : List Seg
  pub nameless : List Span
  pub stretches : stretches.Stretched
  pub entrances : List Entrance

-- A place by the key, the function and the nameless span that hold an address, if they do.
abbrev pub place_by : Option KeyId → Option ℕ → Option ℕ → Where
place_by (Some key) function span = At key
place_by None None span = Outside
place_by None (Some function) (Some span) = Nameless
place_by None (Some function) None = NoLine

-- The place that a map tells of an address.
abbrev pub place_told : Shown → ℕ → Where
place_told shown address = place_by
    (segments.key_told shown.segments address)
    (stretches.function_at shown.stretches address)
    (owner_at shown.nameless address)

-- The name of a function that is entered at an address.
abbrev pub name_if : ℕ → Entrance → Option NameId
name_if address entrance = if entrance.address == address then entrance.name else None

-- The name of a function, by its number, where it is entered at an address.
abbrev pub entry_of : List Entrance → ℕ → Option ℕ → Option NameId
entry_of entrances address function =
    option_and_then (λ number. option_and_then (name_if address) (slice_get entrances number)) function

-- The name of the function that a map tells to be entered at an address.
abbrev pub entry_told : Shown → ℕ → Option NameId
entry_told shown address = entry_of shown.entrances address (stretches.function_at shown.stretches address)

-- A map of members: at each address it tells the place, the function and the name of what is entered, and its segments
-- hold exactly the addresses with a key, each with the number of its key and its factor.
-- Why: This and `ArePartsOf` say three things twice. Each is a contract between layers; one record inside the others
-- would lengthen the way to each field in the proofs above.
pub record IsMap (rows : ℕ → ℕ → Option LineAndDisc) (base : Bool) (members : List Member) (keys : List Key)
    (shown : Shown) : Type 0 where
  pub place : (address : ℕ) → Tells keys (places.place_at rows base members address) (place_told shown address)
  pub function : (address : ℕ) → stretches.function_at shown.stretches address ≡ function_at members address
  pub entry : (address : ℕ) → entry_told shown address ≡ places.entry_name members address
  pub ascend : segments.AreSegments shown.segments
  pub given : AllByRecursion (segments.IsGiven keys) shown.segments
  pub tell : (address : ℕ) → segments.told keys shown.segments address ≡ wanted rows base members address
