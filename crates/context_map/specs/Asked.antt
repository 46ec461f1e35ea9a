-- What a map tells where only some functions are asked for.
use Rattle.std.specs.Prelude.{◌≡◌, ℕ, Bool, true, false, List, Option, None}
use Rattle.std.specs.List.{AllByRecursion}
use Rattle.key_types.specs.declared.ids.NameId.{NameId}
use Rattle.key_types.specs.declared.key.Key.{Key}
use Rattle.chain_model.specs.declared.member.Member.{Member}
use Rattle.chain_model.specs.Chains.{function_at}
use Rattle.chain_model.specs.Places as places
use Rattle.chain_model.specs.Places.{LineAndDisc, Tells}
use Rattle.span_cover.specs.Asked.{asks}
use Rattle.span_cover.specs.Stretches as stretches
use Rattle.key_types.specs.Segments as segments
use Rattle.context_map.specs.declared.entrance.Entrance.{Entrance}
use Rattle.context_map.specs.Maps.{Shown, entry_of, entry_told, place_told, wanted}

-- What is kept of functions: their stretches, and where each member is entered.
pub record Held : Type 0 where
  pub stretches : stretches.Stretched
  pub entrances : List Entrance

-- The name of the function that is told to be entered at an address.
abbrev pub entry_held : Held → ℕ → Option NameId
entry_held held address = entry_of held.entrances address (stretches.function_at held.stretches address)

-- The functions of members: at each address the function that holds it, and the name of what is entered there.
pub record AreFunctions (members : List Member) (held : Held) : Type 0 where
  pub function : (address : ℕ) → stretches.function_at held.stretches address ≡ function_at members address
  pub entry : (address : ℕ) → entry_held held address ≡ places.entry_name members address

-- A map of members, by functions that are asked for: it tells the function of each address and the name of what is
-- entered there; and the place, the key and the factor where they are asked for. Elsewhere no segment stands.
pub record IsMapOver (marks : List Bool) (rows : ℕ → ℕ → Option LineAndDisc) (base : Bool) (members : List Member)
    (keys : List Key) (shown : Shown) : Type 0 where
  pub place : (address : ℕ) → asks marks (function_at members address) ≡ true
      → Tells keys (places.place_at rows base members address) (place_told shown address)
  pub function : (address : ℕ) → stretches.function_at shown.stretches address ≡ function_at members address
  pub entry : (address : ℕ) → entry_told shown address ≡ places.entry_name members address
  pub ascend : segments.AreSegments shown.segments
  pub given : AllByRecursion (segments.IsGiven keys) shown.segments
  pub tell : (address : ℕ) → asks marks (function_at members address) ≡ true
      → segments.told keys shown.segments address ≡ wanted rows base members address
  pub nothing : (address : ℕ) → asks marks (function_at members address) ≡ false
      → segments.key_told shown.segments address ≡ None
