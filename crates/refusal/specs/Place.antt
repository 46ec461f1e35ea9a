-- The first bad place of an input, and the answers that tell it.
use Rattle.std.specs.Prelude.{◌≡◌, ℕ, nat_lt, Bool, ⊤, List, [], ◌∷◌, length, Option, None, Some, Result, Ok, Err, if◌then◌else◌}
use Rattle.refusal.specs.declared.kind.Kind.{Kind}
use Rattle.refusal.specs.declared.kind.Kind.TheVariants.{FileTooLarge}
use Rattle.refusal.specs.declared.place.ItemStop.{ItemStop}
use Rattle.refusal.specs.declared.place.ItemStop.TheVariants as item_stops
use Rattle.refusal.specs.declared.place.Place.{Place}
use Rattle.refusal.specs.declared.place.Stop.{Stop}
use Rattle.refusal.specs.declared.place.Stop.TheVariants.{Refused, NoMemory}

-- An input is a list of items in a fixed order, each with the place at which it fails, if it fails. The first bad
-- place is that of the first item that fails.
abbrev pub first_bad : List (Option Place) → Option Place
first_bad [] = None
first_bad (None ∷ items) = first_bad items
first_bad (Some place ∷ items) = Some place

-- An item that fails at this place where its cause holds.
abbrev pub fails_at : Bool → Place → Option Place
fails_at cause place = if cause then Some place else None

-- The place so many bytes from the start of a binary, which is file 1 of each command that reads one.
abbrev pub in_binary : ℕ → Kind → Place
in_binary at kind = record { file = 1; at = at; kind = kind }

-- The kind of the first cause that holds.
abbrev pub first_cause : List (Bool × Kind) → Option Kind
first_cause [] = None
first_cause ((holds, kind) ∷ causes) = if holds then Some kind else first_cause causes

-- The size of a file that has a limit.
abbrev pub size_item : ℕ → ℕ → List ℕ → Option Place
size_item file limit bytes =
    fails_at (nat_lt limit (length bytes)) (record { file = file; at = limit; kind = FileTooLarge })

-- The input is refused exactly at its first bad place; without one, P holds of what was read.
abbrev pub Judges : {T : Type 0} → Option Place → Result T Place → (T → Type 0) → Type 0
Judges bad (Ok x) P = (bad ≡ None) × P x
Judges bad (Err place) P = bad ≡ Some place

-- The same where memory may be refused, which tells nothing.
abbrev pub JudgesUnlessNoMemory : {T : Type 0} → Option Place → Result T Stop → (T → Type 0) → Type 0
JudgesUnlessNoMemory bad (Ok x) P = (bad ≡ None) × P x
JudgesUnlessNoMemory bad (Err (Refused place)) P = bad ≡ Some place
JudgesUnlessNoMemory bad (Err NoMemory) P = ⊤

-- What ends a reading where this is why a line of a text was not taken in.
abbrev pub stop_on_line : ℕ → ℕ → ItemStop → Stop
stop_on_line file at (item_stops.Refused kind) = Refused (record { file = file; at = at; kind = kind })
stop_on_line file at item_stops.NoMemory = NoMemory

-- The same for the item so many bytes from the start of a binary.
abbrev pub stop_in_binary : ℕ → ItemStop → Stop
stop_in_binary at (item_stops.Refused kind) = Refused (in_binary at kind)
stop_in_binary at item_stops.NoMemory = NoMemory

-- An item is refused for its cause; without one, P holds. Where memory was refused nothing is told.
abbrev pub JudgesItem : Option Kind → Result (Unit {0}) ItemStop → Type 0 → Type 0
JudgesItem cause (Ok done) P = (cause ≡ None) × P
JudgesItem cause (Err (item_stops.Refused kind)) P = cause ≡ Some kind
JudgesItem cause (Err item_stops.NoMemory) P = ⊤
