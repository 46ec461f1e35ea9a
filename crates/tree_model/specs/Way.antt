-- The way of an entry: the entries that its attributes are taken from (DWARF 5, sections 2.13.2 and 3.3.8).
use Rattle.std.specs.Prelude.{ℕ, zero, suc, ◌+◌, Bool, true, false, ◌==◌, ◌&&◌, nat_lt, nat_le, List, [], ◌∷◌, find, slice_get, Option, None, Some, Result, Ok, Err}
use Rattle.std.specs.List.{list_any}
use Rattle.std.specs.Option.{option_map_or, option_or}
use Rattle.refusal.specs.declared.kind.Kind.TheVariants.{BadReference, OriginTooLong}
use Rattle.refusal.specs.declared.place.Place.{Place}
use Rattle.refusal.specs.Place.{in_binary}
use Rattle.value_model.specs.Value.{Value, ref, ref_info}
use Rattle.unit_model.specs.Constants.{DW_AT_abstract_origin, DW_AT_specification}
use Rattle.unit_model.specs.Values.{Found}
use Rattle.unit_model.specs.Entries.{Entry}
use Rattle.unit_model.specs.Units.{Units}
use Rattle.tree_model.specs.Bases.{attribute}

-- Where `.debug_info` begins in the file, and what it says.
pub record Info : Type 0 where
  pub start : ℕ
  pub units : Units

-- The attribute by which an entry leads to another one.
abbrev pub reference_of : Entry → Option Found
reference_of entry =
    option_or (attribute DW_AT_abstract_origin entry.found) (attribute DW_AT_specification entry.found)

-- Where the unit of a number begins in the file. Of a number without a unit this is 0.
abbrev pub start_of_unit : Units → ℕ → ℕ
start_of_unit units number = option_map_or (λ unit. unit.at) (slice_get units.units number) 0

-- The offset in the file that a value of an entry in a unit leads to. A signature leads to none.
-- Why: References are whole numbers, as offsets are: no sum wraps, and what passes the section's end does so by its
-- true size.
abbrev pub target_of : Info → ℕ → Value → Option ℕ
target_of info unit (ref offset) = Some (start_of_unit info.units unit + offset)
target_of info unit (ref_info offset) = Some (info.start + offset)
target_of info unit other = None

-- The entry that begins at an offset in the file.
abbrev pub entry_beginning_at : List Entry → ℕ → Option Entry
entry_beginning_at entries at = find (λ entry. entry.at == at) entries

-- An offset in the file lies in a unit that was passed over.
abbrev pub is_passed_over : List (ℕ × ℕ) → ℕ → Bool
is_passed_over skipped at = list_any (λ extent. nat_le extent.0 at && nat_lt at extent.1) skipped

-- What a reference that stands at a place met: an entry, the end of the way in a unit that was passed over, or neither.
abbrev pub met : ℕ → Bool → Option Entry → Result (Option Entry) Place
met place passed_over (Some entry) = Ok (Some entry)
met place true None = Ok None
met place false None = Err (in_binary place BadReference)

-- What a reference leads to.
abbrev pub led_to : Units → ℕ → Option ℕ → Result (Option Entry) Place
led_to units place None = Ok None
led_to units place (Some at) = met place (is_passed_over units.skipped at) (entry_beginning_at units.entries at)

-- The entry behind one on a way, where the way does not end.
-- Why: A signature, or a unit that was passed over, ends a way, also beside a specification. An entry on the way with a
-- tag that is not asked for has no attributes.
abbrev pub next_by : Info → ℕ → Option Found → Result (Option Entry) Place
next_by info unit None = Ok None
next_by info unit (Some found) = led_to info.units found.at (target_of info unit found.value)

-- The entry behind one on a way, by the entry's own reference.
unfoldable pub next_on_way : Info → Entry → Result (Option Entry) Place
next_on_way info entry = next_by info entry.unit (reference_of entry)

-- An entry with those behind it.
abbrev pub with_first : Entry → Result (List Entry) Place → Result (List Entry) Place
with_first entry (Ok entries) = Ok (entry ∷ entries)
with_first entry (Err place) = Err place

-- The way from an entry on, where the next one is known.
abbrev pub going_on : Entry → (Entry → Result (List Entry) Place) → Result (Option Entry) Place
    → Result (List Entry) Place
going_on entry others (Ok None) = Ok (entry ∷ [])
going_on entry others (Ok (Some next)) = with_first entry (others next)
going_on entry others (Err place) = Err place

-- The way from an entry on, with so many steps at most, of a way that began at an offset in the file.
abbrev pub way_from : Info → ℕ → ℕ → Entry → Result (List Entry) Place
way_from info began zero entry = going_on entry (λ next. Err (in_binary began OriginTooLong)) (next_on_way info entry)
way_from info began (suc steps) entry = going_on entry (way_from info began steps) (next_on_way info entry)

-- The most steps of a way.
abbrev pub max_steps : ℕ
max_steps = 16

-- The way of an entry.
unfoldable pub way : Info → Entry → Result (List Entry) Place
way info entry = way_from info entry.at max_steps entry
