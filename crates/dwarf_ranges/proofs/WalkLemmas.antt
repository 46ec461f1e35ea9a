-- A walk over a range list: what it has done so far, and what is left.
use Rattle.std.proofs.Common.{◌≡◌, ◌<◌, ◌≤◌, ◌+◌, ℕ, Bool, List, [], ◌++◌, length, None, Some, Ok, refl, ap, sym, ◌∙◌, arith}
use Rattle.std.specs.Option.{option_to_list}
use Rattle.std.proofs.lemmas.List.{append_assoc, append-nil, length-append}
use Rattle.refusal.specs.declared.kind.Kind.TheVariants.{TooManyRanges}
use Rattle.refusal.specs.Place.{in_binary}
use Rattle.byte_view.specs.Cursor.{Cursor}
use Rattle.range_model.specs.Entries.{Entry, entry_at}
use Rattle.range_model.specs.Lists.{Resolves, entries_from, bad_in_list, ranges_from, max_entries, base_behind, ranges_of_entry}
use Rattle.range_model.proofs.EntryLemmas.{entry_at-ends, entry_at-shorter}
use Rattle.range_model.proofs.ListLemmas.{entries_from-entry, bad_in_list-good, bad_in_list-many}
use Rattle.dwarf_ranges.specs.declared.step.ListStep.{ListStep}
use Rattle.dwarf_ranges.specs.Meaning.{IsStep}
use Rattle.dwarf_ranges.specs.Walk.{IsNext}

-- an entry was read, and means something
pub next-made : (resolve : Resolves) (pairs : Bool) (base place : ℕ) (old new : Cursor) (entry : Entry) (step : ListStep)
    → entry_at pairs old.left ≡ Ok (Some (entry, new.left)) → new.at + length new.left ≡ old.at + length old.left
    → place ≡ old.at → IsStep resolve place base entry step → IsNext resolve pairs base old new step
next-made resolve pairs base place old new entry step read end place_is made =
    let ends = entry_at-ends pairs old.left new.left entry read in
    let moved : new.at ≡ old.at + length ends.front = omega (arith, end, ap length ends.parts, length-append ends.front new.left) in
    record {
      entry = entry;
      here = entries_from-entry pairs old new entry read end;
      shorter = entry_at-shorter pairs old.left new.left entry read;
      made = rw place_is at made;
      front = ends.front;
      parts = ends.parts;
      moved = moved;
    }

-- The walk so far: the list is bad where what is left is bad, and its ranges are those found and those of what is left.
module _ (resolve : Resolves) (pairs : Bool) (first_base : ℕ) (start : Cursor) where
  pub record SoFar (cur : Cursor) (base count : ℕ) (ranges : List (ℕ × ℕ)) : Type 0 where
    pub bad : bad_in_list resolve 0 (entries_from pairs start.at start.left) ≡ bad_in_list resolve count (entries_from pairs cur.at cur.left)
    pub found : ranges_from resolve first_base (entries_from pairs start.at start.left).entries
        ≡ ranges ++ ranges_from resolve base (entries_from pairs cur.at cur.left).entries
    pub few : count ≤ max_entries

  pub SoFar-start : SoFar start first_base 0 []
  SoFar-start = record { bad = refl; found = refl; few = omega arith }

  -- one entry more
  pub SoFar-more : (old new : Cursor) (base count : ℕ) (ranges more : List (ℕ × ℕ)) (step : ListStep) → SoFar old base count ranges
      → IsNext resolve pairs base old new step → count < max_entries → more ≡ ranges ++ option_to_list step.range
      → SoFar new step.base (count + 1) more
  SoFar-more old new base count ranges more step so_far next few more_is =
      let rest = entries_from pairs new.at new.left in
      let bad = bad_in_list-good resolve count old.at next.entry rest next.made.good few in
      let here : ranges_from resolve base (entries_from pairs old.at old.left).entries
      ≡ ranges_of_entry resolve base next.entry ++ ranges_from resolve (base_behind resolve base next.entry) rest.entries =
      rw next.here refl in
      let made = next.made in
      let more_are : more ≡ ranges ++ ranges_of_entry resolve base next.entry = rw (← next.made.ranges_are) more_is in
      let regrouped : ranges ++ (ranges_of_entry resolve base next.entry ++ ranges_from resolve (base_behind resolve base next.entry) rest.entries)
      ≡ more ++ ranges_from resolve step.base rest.entries =
      rw (more_are, next.made.base_is) (sym (append_assoc ranges (ranges_of_entry resolve base next.entry) (ranges_from resolve (base_behind resolve base next.entry) rest.entries))) in
      record {
        bad = so_far.bad ∙ rw next.here bad;
        found = so_far.found ∙ ap (λ (left : List (ℕ × ℕ)). ranges ++ left) here ∙ regrouped;
        few = omega arith;
      }

  -- the list ends
  pub SoFar-end : (cur : Cursor) (base count : ℕ) (ranges : List (ℕ × ℕ)) → SoFar cur base count ranges
      → entries_from pairs cur.at cur.left ≡ record { entries = []; broken = None }
      → (bad_in_list resolve 0 (entries_from pairs start.at start.left) ≡ None)
      × (ranges ≡ ranges_from resolve first_base (entries_from pairs start.at start.left).entries)
  SoFar-end cur base count ranges so_far end =
      (so_far.bad ∙ rw end refl, sym (so_far.found ∙ rw (end, append-nil) refl))

  -- one entry too many
  pub SoFar-many : (old new : Cursor) (base count : ℕ) (ranges : List (ℕ × ℕ)) (step : ListStep) → SoFar old base count ranges
      → IsNext resolve pairs base old new step → max_entries ≤ count
      → bad_in_list resolve 0 (entries_from pairs start.at start.left) ≡ Some (in_binary step.at TooManyRanges)
  SoFar-many old new base count ranges step so_far next many =
      let bad = bad_in_list-many resolve count old.at next.entry (entries_from pairs new.at new.left) next.made.good many in
      so_far.bad ∙ rw (next.here, next.made.at_place) bad
