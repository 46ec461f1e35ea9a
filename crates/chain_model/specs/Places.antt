-- The place of an address: its key, or why it has none.
use Rattle.std.specs.Prelude.{◌≡◌, ℕ, ◌+◌, ◌-◌, ◌%◌, ◌^◌, Bool, false, ◌==◌, List, [], ◌∷◌, map, slice_get, Option, None, Some, unwrap_or, option_and_then, if◌then◌else◌}
use Rattle.std.specs.Option.{option_map}
use Rattle.key_types.specs.declared.ids.KeyId.{KeyId}
use Rattle.key_types.specs.declared.ids.NameId.{NameId}
use Rattle.key_types.specs.declared.key.Frame.{Frame}
use Rattle.key_types.specs.declared.key.Key.{Key}
use Rattle.key_types.specs.declared.places.Where.{Where}
use Rattle.key_types.specs.declared.places.Where.TheVariants.{Outside, Nameless, NoLine, At}
use Rattle.key_types.specs.Discriminators as packed
use Rattle.chain_model.specs.declared.member.Member.{Member}
use Rattle.chain_model.specs.Chains.{chain, function_of}

-- The place of an address: no function holds it, a member of its chain has no name, it has no line, or it has a key.
pub data Place : Type 0 where
  outside : Place
  nameless : Place
  no_line : Place
  has_key : Key → Place

-- The place is a key.
abbrev pub HasKey : Place → Type 0
HasKey (has_key key) = Unit {0}
HasKey _ = ⊥

-- The line and the discriminator of a row.
abbrev pub LineAndDisc : Type 0
LineAndDisc = ℕ × ℕ

-- A line counted from a first one, modulo 65,536.
abbrev pub line_offset : ℕ → ℕ → ℕ
line_offset first line = (line + (2 ^ 16 - first % 2 ^ 16)) % 2 ^ 16

-- A discriminator as a key has it: its base where that is asked, else as it stands.
abbrev pub kept : Bool → ℕ → ℕ
kept base disc = if base then packed.base disc else disc

-- The frame of a call of this name inlined into a function that starts in a line.
abbrev pub frame : Bool → ℕ → Member → NameId → Frame
frame base start call name = record { name = name; offset = line_offset start call.line; disc = kept base call.disc }

-- The frames of calls, each inlined into the one before, the first into a function that starts in a line. There are
-- none where a call has no name.
abbrev pub frames : Bool → ℕ → List Member → Option (List Frame)
frames base start [] = Some []
frames base start (call ∷ calls) = option_and_then
    (λ name. option_map (λ rest. frame base start call name ∷ rest) (frames base call.start calls))
    call.name

-- The line in which the last of these calls starts, or without calls the function around them.
abbrev pub last_start : ℕ → List Member → ℕ
last_start start [] = start
last_start start (call ∷ calls) = last_start call.start calls

-- The key of a named function, the frames in it, and a row, whose line is counted from the start of the last of them.
abbrev pub key : Bool → NameId → List Frame → ℕ → LineAndDisc → Key
key base root calls start row =
    record { root = root; calls = calls; offset = line_offset start row.0; disc = kept base row.1 }

-- The place that a name, frames and a row give, each if there is one. A row of line 0 has no line.
abbrev pub place_by : Bool → ℕ → Option NameId → Option (List Frame) → Option LineAndDisc → Place
place_by base start None calls row = nameless
place_by base start (Some root) None row = nameless
place_by base start (Some root) (Some calls) None = no_line
place_by base start (Some root) (Some calls) (Some row) =
    if row.0 == 0 then no_line else has_key (key base root calls start row)

-- The place that a chain and a row give.
abbrev pub place_of : Bool → List Member → Option LineAndDisc → Place
place_of base [] row = outside
place_of base (function ∷ calls) row =
    place_by base (last_start function.start calls) function.name (frames base function.start calls) row

-- The members of the chain of an address.
abbrev pub chain_members : List Member → ℕ → List Member
chain_members members address = map (λ member. member.1) (chain members address)

-- The row of an address is that in the unit of its function; `rows` tells the row of an address in a unit.
abbrev pub row_of : (ℕ → ℕ → Option LineAndDisc) → List Member → ℕ → Option LineAndDisc
row_of rows [] address = None
row_of rows (function ∷ calls) address = rows function.unit address

-- The place of an address.
abbrev pub place_at : (ℕ → ℕ → Option LineAndDisc) → Bool → List Member → ℕ → Place
place_at rows base members address =
    place_of base (chain_members members address) (row_of rows (chain_members members address) address)

-- How often the code at an address was copied, as its row says, and 1 where that is not asked or there is no row.
abbrev pub factor_at : (ℕ → ℕ → Option LineAndDisc) → Bool → List Member → ℕ → ℕ
factor_at rows base members address = unwrap_or
    (option_map (λ row. if base then packed.factor row.1 else 1) (row_of rows (chain_members members address) address))
    1

-- A function is entered at the start of its first piece.
abbrev pub is_entered_at : ℕ → List (ℕ × ℕ) → Bool
is_entered_at address [] = false
is_entered_at address (piece ∷ pieces) = piece.0 == address

-- The name of the function that is entered at an address, if it has one and is the function of the address.
abbrev pub entry_name : List Member → ℕ → Option NameId
entry_name members address = option_and_then
    (λ function. if is_entered_at address function.1.pieces then function.1.name else None)
    (function_of members address)

-- An answer tells a place among numbered keys.
abbrev pub Tells : List Key → Place → Where → Type 0
Tells keys outside answer = answer ≡ Outside
Tells keys nameless answer = answer ≡ Nameless
Tells keys no_line answer = answer ≡ NoLine
Tells keys (has_key key) answer = (id : KeyId) × (answer ≡ At id) × (slice_get keys id.0 ≡ Some key)
