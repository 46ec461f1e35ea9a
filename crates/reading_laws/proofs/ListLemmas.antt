-- The entries of a list, one behind the other.
use Rattle.std.proofs.Common.{◌≡◌, ◌<◌, ℕ, zero, suc, ◌+◌, ◌-◌, Bool, List, [], ◌∷◌, length, Option, None, Some, Ok, Err, refl, sym, ap, ◌∙◌, arith}
use Rattle.refusal.specs.declared.place.Place.{Place}
use Rattle.byte_view.specs.Cursor.{Cursor}
use Rattle.range_model.specs.Entries.{EntryReading, entry_at}
use Rattle.range_model.specs.Lists.{Placed, Listed, continued, entries_from, listed, with_entry}
use Rattle.range_model.proofs.EntryLemmas.{entry_at-shorter}
use Rattle.range_model.proofs.ListLemmas.{entries_from-entry, entries_from-end, entries_from-broken}
use Rattle.reading_laws.specs.Lists.{ListsAreWhole, WholeListsAreRead, Stand, Stops}

-- What a list holds stands in its bytes.
abbrev Whole : Bool → Cursor → Listed → Type 0
Whole pairs start list = (stop : Cursor) × Stand pairs start list.entries stop × Stops pairs stop list.broken

-- with room for more entries than there are bytes
whole-within : (pairs : Bool) (most : ℕ) (start : Cursor) → length start.left < most → Whole pairs start (listed pairs most start.at start.left)
whole-within pairs zero start room = absurd (omega (arith, room))
whole-within pairs (suc most) start room =
    go (entry_at pairs start.left) refl (λ next less. whole-within pairs most next (omega (arith, room, less)))
  where
    go : (reading : EntryReading) → entry_at pairs start.left ≡ reading
        → ((next : Cursor) → length next.left < length start.left → Whole pairs next (listed pairs most next.at next.left))
        → Whole pairs start (continued start.at (length start.left) reading (λ at rest. listed pairs most at rest))
    go (Err kind) is later = (start, refl, (kind, is, refl))
    go (Ok None) is later = (start, refl, is)
    go (Ok (Some (entry, rest))) is later =
        let less : length rest < length start.left = entry_at-shorter pairs start.left rest entry is in
        let next : Cursor = record { at = start.at + (length start.left - length rest); left = rest } in
        let w = later next less in
        (w.0, (refl, next, is, omega (arith, less), w.1), w.2)

pub lists-whole : ListsAreWhole
lists-whole pairs start = whole-within pairs (length start.left + 1) start (omega arith)

-- what stands at the start of a list is read
pub whole_lists-read : WholeListsAreRead
whole_lists-read pairs start stop list stand stops = go start list.entries list.broken stand stops
  where
    none : (cur : Cursor) (broken : Option Place) → Stops pairs cur broken → entries_from pairs cur.at cur.left ≡ record { entries = []; broken = broken }
    none cur None is = entries_from-end pairs cur.at cur.left is
    none cur (Some place) (kind, is, place_is) =
        entries_from-broken pairs cur.at cur.left kind is ∙ ap (λ (p : Place). record { entries = []; broken = Some p }) (sym place_is)

    go : (cur : Cursor) (entries : List Placed) (broken : Option Place) → Stand pairs cur entries stop → Stops pairs stop broken
        → entries_from pairs cur.at cur.left ≡ record { entries = entries; broken = broken }
    go cur [] broken here stops =
        ap (λ (c : Cursor). entries_from pairs c.at c.left) here ∙ none stop broken stops
    go cur (placed ∷ entries) broken (at, next, is, ends, later) stops =
        entries_from-entry pairs cur next placed.entry is ends
        ∙ ap (with_entry cur.at placed.entry) (go next entries broken later stops)
        ∙ ap (λ (n : ℕ). record { entries = record { at = n; entry = placed.entry } ∷ entries; broken = broken }) (sym at)
