-- A list, entry by entry.
use Rattle.std.proofs.Common.{◌≡◌, ◌<◌, ◌≤◌, ◌+◌, ◌-◌, ℕ, zero, suc, Bool, List, [], length, None, Some, Ok, Err, refl, ap, ◌∙◌, arith, add-one}
use Rattle.std.proofs.lemmas.Bool.{le-leb, lt-leb}
use Rattle.refusal.specs.declared.kind.Kind.{Kind}
use Rattle.refusal.specs.declared.kind.Kind.TheVariants.{TooManyRanges}
use Rattle.refusal.specs.Place.{in_binary}
use Rattle.byte_view.specs.Cursor.{Cursor}
use Rattle.range_model.specs.Entries.{Entry, EntryReading, entry_at}
use Rattle.range_model.specs.Lists.{Listed, Resolves, with_entry, continued, listed, entries_from, entry_cause, bad_in_list, max_entries}
use Rattle.range_model.proofs.EntryLemmas.{entry_at-shorter}

continued-same : (pairs : Bool) (at : ℕ) (bytes : List ℕ) (reading : EntryReading) → entry_at pairs bytes ≡ reading
    → (f g : ℕ → List ℕ → Listed) → ((next : ℕ) (rest : List ℕ) → length rest < length bytes → f next rest ≡ g next rest)
    → continued at (length bytes) reading f ≡ continued at (length bytes) reading g
continued-same pairs at bytes (Err kind) is f g same = refl
continued-same pairs at bytes (Ok None) is f g same = refl
continued-same pairs at bytes (Ok (Some (entry, rest))) is f g same =
    ap (with_entry at entry) (same (at + (length bytes - length rest)) rest (entry_at-shorter pairs bytes rest entry is))

-- more entries than there are bytes are all entries
listed-all : (pairs : Bool) (most least at : ℕ) (bytes : List ℕ) → length bytes < most → length bytes < least
    → listed pairs most at bytes ≡ listed pairs least at bytes
listed-all pairs zero least at bytes m l = absurd (omega arith)
listed-all pairs (suc most) zero at bytes m l = absurd (omega arith)
listed-all pairs (suc most) (suc least) at bytes m l =
    continued-same pairs at bytes (entry_at pairs bytes) refl (λ next rest. listed pairs most next rest) (λ next rest. listed pairs least next rest)
    (λ next rest shorter. listed-all pairs most least next rest (omega arith) (omega arith))

-- what a list holds, by what stands at its front
entries_from-front : (pairs : Bool) (at : ℕ) (bytes : List ℕ) (reading : EntryReading) → entry_at pairs bytes ≡ reading
    → entries_from pairs at bytes ≡ continued at (length bytes) reading (λ next rest. entries_from pairs next rest)
entries_from-front pairs at bytes reading is =
    let unfolded : listed pairs (length bytes + 1) at bytes ≡ continued at (length bytes) (entry_at pairs bytes) (λ next rest. listed pairs (length bytes) next rest) =
    rw add-one refl in
    let same = continued-same pairs at bytes (entry_at pairs bytes) refl (λ next rest. listed pairs (length bytes) next rest) (λ next rest. entries_from pairs next rest)
    (λ next rest shorter. listed-all pairs (length bytes) (length rest + 1) next rest shorter (omega arith)) in
    unfolded ∙ same ∙ ap (λ (r : EntryReading). continued at (length bytes) r (λ next rest. entries_from pairs next rest)) is

-- an entry was read
pub entries_from-entry : (pairs : Bool) (old new : Cursor) (entry : Entry) → entry_at pairs old.left ≡ Ok (Some (entry, new.left))
    → new.at + length new.left ≡ old.at + length old.left
    → entries_from pairs old.at old.left ≡ with_entry old.at entry (entries_from pairs new.at new.left)
entries_from-entry pairs old new entry is end =
    let shorter = entry_at-shorter pairs old.left new.left entry is in
    let next : old.at + (length old.left - length new.left) ≡ new.at = omega arith in
    entries_from-front pairs old.at old.left (Ok (Some (entry, new.left))) is
    ∙ ap (λ (n : ℕ). with_entry old.at entry (entries_from pairs n new.left)) next

-- What is left of a list that ends, or breaks, where a cursor stands.
pub entries_from-end : (pairs : Bool) (at : ℕ) (bytes : List ℕ) → entry_at pairs bytes ≡ Ok None
    → entries_from pairs at bytes ≡ record { entries = []; broken = None }
entries_from-end pairs at bytes is = entries_from-front pairs at bytes (Ok None) is

pub entries_from-broken : (pairs : Bool) (at : ℕ) (bytes : List ℕ) (kind : Kind) → entry_at pairs bytes ≡ Err kind
    → entries_from pairs at bytes ≡ record { entries = []; broken = Some (in_binary at kind) }
entries_from-broken pairs at bytes kind is = entries_from-front pairs at bytes (Err kind) is

-- an entry that means something is no bad place, where it is not one too many
pub bad_in_list-good : (resolve : Resolves) (count at : ℕ) (entry : Entry) (rest : Listed) → entry_cause resolve entry ≡ None → count < max_entries
    → bad_in_list resolve count (with_entry at entry rest) ≡ bad_in_list resolve (count + 1) rest
bad_in_list-good resolve count at entry rest good few = rw (good, lt-leb max_entries count few) refl

pub bad_in_list-cause : (resolve : Resolves) (count at : ℕ) (entry : Entry) (rest : Listed) (kind : Kind) → entry_cause resolve entry ≡ Some kind
    → bad_in_list resolve count (with_entry at entry rest) ≡ Some (in_binary at kind)
bad_in_list-cause resolve count at entry rest kind bad = rw bad refl

pub bad_in_list-many : (resolve : Resolves) (count at : ℕ) (entry : Entry) (rest : Listed) → entry_cause resolve entry ≡ None → max_entries ≤ count
    → bad_in_list resolve count (with_entry at entry rest) ≡ Some (in_binary at TooManyRanges)
bad_in_list-many resolve count at entry rest good many = rw (good, le-leb max_entries count many) refl
