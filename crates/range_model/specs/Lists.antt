-- Range lists: where one begins, the entries that its bytes spell, the ranges that these mean, and its first bad place.
use Rattle.std.specs.Prelude.{ℕ, suc, zero, ◌+◌, ◌-◌, ◌%◌, ◌^◌, Bool, true, false, nat_lt, nat_le, if◌then◌else◌, List, [], ◌∷◌, ◌++◌, length, drop, Option, None, Some, Result, Ok, Err}
use Rattle.std.specs.Option.{option_or, option_map, option_map_or}
use Rattle.std.specs.Result.{result_err}
use Rattle.refusal.specs.declared.kind.Kind.{Kind}
use Rattle.refusal.specs.declared.kind.Kind.TheVariants.{BadClass, NoSection, PastSection, TooManyRanges}
use Rattle.refusal.specs.declared.place.Place.{Place}
use Rattle.refusal.specs.Place.{in_binary, fails_at, first_bad}
use Rattle.value_model.specs.Value.{Value, const, offset, range_index}
use Rattle.value_model.specs.Forms.{offset_size}
use Rattle.range_model.specs.Texts.{Bases, Sections, slot, address_of}
use Rattle.range_model.specs.Entries.{Entry, EntryReading, sets_base, between, along, from_base, entry_at}

-- A section with its place in the file.
pub record Piece : Type 0 where
  pub at : ℕ
  pub bytes : List ℕ

-- The sections that range lists stand in, where the file has them.
pub record RangeSections : Type 0 where
  pub ranges : Option Piece
  pub rnglists : Option Piece
  pub texts : Sections

-- Where a range list begins: in which form its entries stand, its place in the file, and the bytes from there to
-- the end of its section.
pub record Start : Type 0 where
  pub pairs : Bool
  pub at : ℕ
  pub bytes : List ℕ

-- The list at an offset of a section.
abbrev pub list_in : Bool → Option Piece → ℕ → Result Start Kind
list_in pairs None from = Err NoSection
list_in pairs (Some piece) from =
    if nat_lt (length piece.bytes) from then Err PastSection
    else Ok (record { pairs = pairs; at = piece.at + from; bytes = drop from piece.bytes })

-- The list at an offset of the section that the version has for range lists.
abbrev pub list_by_version : ℕ → RangeSections → ℕ → Result Start Kind
list_by_version version sections from =
    if nat_lt version 5 then list_in true sections.ranges from else list_in false sections.rnglists from

-- The list at an offset that an index led to, counted from the base of the indexes.
abbrev pub list_behind : Option ℕ → Option Piece → Result ℕ Kind → Result Start Kind
list_behind base section (Ok from) = list_in false section (option_map_or (λ b. b) base 0 + from)
list_behind base section (Err kind) = Err kind

-- The list that a value of the attribute for ranges leads to.
-- Why: A range list by index in version 4 leads into `.debug_rnglists` too. A value of another class is `BadClass` at
-- the value, so nothing is asked of it.
abbrev pub list_of : ℕ → RangeSections → Bases → Value → Result Start Kind
list_of version sections bases (offset from) = list_by_version version sections from
list_of version sections bases (const from) = list_by_version version sections from
list_of version sections bases (range_index index) =
    list_behind bases.rnglists sections.rnglists
    (slot bases.rnglists (option_map (λ piece. piece.bytes) sections.rnglists) (offset_size bases.wide) index)
list_of version sections bases _ = Err BadClass

-- An entry with its place in the file.
pub record Placed : Type 0 where
  pub at : ℕ
  pub entry : Entry

-- The entries that bytes spell, one behind the other up to the end of the list, and the place where no entry and no
-- end stands, if the list comes to one.
pub record Listed : Type 0 where
  pub entries : List Placed
  pub broken : Option Place

-- One entry more before some entries.
abbrev pub with_entry : ℕ → Entry → Listed → Listed
with_entry at entry listed =
    record { entries = record { at = at; entry = entry } ∷ listed.entries; broken = listed.broken }

-- What a list of so many bytes at a place holds, by what stands at its front and by what more there is.
abbrev pub continued : ℕ → ℕ → EntryReading → (ℕ → List ℕ → Listed) → Listed
continued at size (Err kind) more = record { entries = []; broken = Some (in_binary at kind) }
continued at size (Ok None) more = record { entries = []; broken = None }
continued at size (Ok (Some (entry, rest))) more = with_entry at entry (more (at + (size - length rest)) rest)

-- The first so many entries that bytes spell, the bytes standing at a place.
abbrev pub listed : Bool → ℕ → ℕ → List ℕ → Listed
listed pairs zero at bytes = record { entries = []; broken = None }
listed pairs (suc most) at bytes =
    continued at (length bytes) (entry_at pairs bytes) (λ next rest. listed pairs most next rest)

-- All entries that bytes at a place spell. Each has a byte at least.
abbrev pub entries_from : Bool → ℕ → List ℕ → Listed
entries_from pairs at bytes = listed pairs (length bytes + 1) at bytes

-- All entries of a list.
abbrev pub entries_of : Start → Listed
entries_of start = entries_from start.pairs start.at start.bytes

-- What addresses mean.
abbrev pub Resolves : Type 0
Resolves = Value → Result ℕ Kind

-- The address of a value that has one.
abbrev pub or_else : ℕ → Result ℕ Kind → ℕ
or_else other (Ok address) = address
or_else other (Err kind) = other

-- The base behind an entry.
abbrev pub base_behind : Resolves → ℕ → Entry → ℕ
base_behind resolve base (sets_base value) = or_else base (resolve value)
base_behind resolve base _ = base

-- A range, where its end is above its start.
abbrev pub proper : ℕ → ℕ → List (ℕ × ℕ)
proper start end = if nat_lt start end then (start, end) ∷ [] else []

-- The sum of two addresses: 64 bits of it.
abbrev pub sum_of : ℕ → ℕ → ℕ
sum_of a b = (a + b) % 2 ^ 64

-- The range that an entry means, none where it is empty.
abbrev pub ranges_of_entry : Resolves → ℕ → Entry → List (ℕ × ℕ)
ranges_of_entry resolve base (sets_base value) = []
ranges_of_entry resolve base (between start end) = proper (or_else 0 (resolve start)) (or_else 0 (resolve end))
ranges_of_entry resolve base (along start size) =
    let first = or_else 0 (resolve start) in proper first (sum_of first size)
ranges_of_entry resolve base (from_base start end) = proper (sum_of base start) (sum_of base end)

-- The ranges that some entries mean, in their order.
abbrev pub ranges_from : Resolves → ℕ → List Placed → List (ℕ × ℕ)
ranges_from resolve base [] = []
ranges_from resolve base (placed ∷ rest) =
    ranges_of_entry resolve base placed.entry ++ ranges_from resolve (base_behind resolve base placed.entry) rest

-- The first cause why an entry means nothing.
abbrev pub entry_cause : Resolves → Entry → Option Kind
entry_cause resolve (sets_base value) = result_err (resolve value)
entry_cause resolve (between start end) = option_or (result_err (resolve start)) (result_err (resolve end))
entry_cause resolve (along start size) = result_err (resolve start)
entry_cause resolve (from_base start end) = None

-- The most entries of one list, the one that ends it aside.
abbrev pub max_entries : ℕ
max_entries = 65536

-- The place of an entry that means nothing, or that is one too many behind so many others.
abbrev pub entry_item : Resolves → ℕ → Placed → Option Place
entry_item resolve count placed =
    option_or (option_map (in_binary placed.at) (entry_cause resolve placed.entry))
    (fails_at (nat_le max_entries count) (in_binary placed.at TooManyRanges))

-- The items of some entries behind so many others.
abbrev pub entry_items : Resolves → ℕ → List Placed → List (Option Place)
entry_items resolve count [] = []
entry_items resolve count (placed ∷ rest) = entry_item resolve count placed ∷ entry_items resolve (count + 1) rest

-- The first bad place of what a list still has behind so many entries.
abbrev pub bad_in_list : Resolves → ℕ → Listed → Option Place
bad_in_list resolve count listed = first_bad (entry_items resolve count listed.entries ++ listed.broken ∷ [])

-- The first bad place of the ranges of a value that stands at a place.
unfoldable pub bad_range : ℕ → ℕ → RangeSections → Bases → Value → Option Place
bad_range at version sections bases value =
    elim (list_of version sections bases value) [
      | Err kind ↦ Some (in_binary at kind)
      | Ok start ↦ bad_in_list (address_of sections.texts bases) 0 (entries_of start)
    ]

-- The ranges that a value means, `base` being the unit's base address.
unfoldable pub ranges_of : ℕ → ℕ → RangeSections → Bases → Value → List (ℕ × ℕ)
ranges_of version base sections bases value =
    elim (list_of version sections bases value) [
      | Err kind ↦ []
      | Ok start ↦ ranges_from (address_of sections.texts bases) base (entries_of start).entries
    ]
