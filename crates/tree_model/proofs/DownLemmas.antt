-- Entries that are read go down one at a time.
use Rattle.std.proofs.Common.{◌≡◌, ℕ, ◌+◌, ◌-◌, ◌≤◌, Bool, true, false, cond, List, [], ◌∷◌, ap, arith}
use Rattle.byte_view.specs.Cursor.{Cursor}
use Rattle.unit_model.specs.Abbrev.{Abbrev}
use Rattle.unit_model.specs.Entries.{Entry, InUnit}
use Rattle.entry_model.specs.Entries.{SpellsEntries, no_entry, level_closed, entry_first}
use Rattle.entry_model.proofs.EntryLemmas.{entries-read}
use Rattle.tree_model.specs.Laws.{GoDownOneByOne, ReadEntriesGoDown}

wider : (few many : ℕ) (es : List Entry) → few ≤ many → GoDownOneByOne few es → GoDownOneByOne many es
wider few many [] less down = tt
wider few many (entry ∷ es) less down = (omega (arith, less, down.0), down.1)

-- behind an entry the next stands at most right below it
at_most_below : (children : Bool) (depth : ℕ) → cond children (depth + 1) depth ≤ depth + 1
at_most_below true depth = omega arith
at_most_below false depth = omega arith

spelled_down : (of : InUnit) (kinds : List Abbrev) (depth : ℕ) (old new : Cursor) (own : List Entry) → SpellsEntries of kinds depth old new own → GoDownOneByOne depth own
spelled_down of kinds _ _ _ _ (no_entry depth cur none) = tt
spelled_down of kinds _ _ _ _ (level_closed depth old behind_it new own r spelled) =
    wider (depth - 1) depth own (omega arith) (spelled_down of kinds (depth - 1) behind_it new own spelled)
spelled_down of kinds _ _ _ _ (entry_first depth old behind_it new kind entry own s spelled) =
    let deep : entry.depth ≡ depth = ap (λ (e : Entry). e.depth) s.told in
    let most = at_most_below kind.children depth in (
      omega (arith, deep),
      wider (cond kind.children (depth + 1) depth) (entry.depth + 1) own (omega (arith, most, deep))
          (spelled_down of kinds (cond kind.children (depth + 1) depth) behind_it new own spelled),
    )

pub read-entries_go_down : ReadEntriesGoDown
read-entries_go_down of kinds before all old new room e =
    let r = entries-read of kinds before all old new room e in
    (r.0, r.3, spelled_down of kinds 0 old new r.0 r.1)
