-- Readers that go step by step until a step ends them.
use Rattle.std.specs.Prelude.{ℕ, zero, suc, List, [], ◌∷◌, length, Option, None, Some, Ok}
use Rattle.byte_view.specs.Cursor.{Cursor}
use Rattle.placed_view.specs.Reader.{Read, Reader, behind, gives}

-- What follows a step: it ended the reading, or the others go on from what it made.
abbrev pub goes_on : {S : Type 0} → S → (S → Reader S) → Option S → Reader S
goes_on state others None = gives state
goes_on state others (Some next) = others next

-- At most so many steps. Each makes the next state, up to the one that makes none.
abbrev pub steps : {S : Type 0} → (S → Reader (Option S)) → ℕ → S → Reader S
steps step zero state cur = Ok (state, cur)
steps step (suc more) state cur = behind (step state cur) (goes_on state (λ s c. steps step more s c))

-- As many steps as there are, of which each takes a byte at least.
abbrev pub to_the_end : {S : Type 0} → (S → Reader (Option S)) → S → Reader S
to_the_end step state cur = steps step (suc (length cur.left)) state cur

-- A step, where there are bytes left.
abbrev pub if_left : {S : Type 0} → List ℕ → Read S → Cursor → Read (Option S)
if_left [] step cur = Ok (None, cur)
if_left (byte ∷ rest) step cur = behind step (λ state. gives (Some state))

-- A step, which ends the reading where no byte is left.
abbrev pub step_if_left : {S : Type 0} → (S → Reader S) → S → Reader (Option S)
step_if_left step state cur = if_left cur.left (step state cur) cur

-- Steps until no byte is left, of which each takes a byte at least.
abbrev pub while_left : {S : Type 0} → (S → Reader S) → S → Reader S
while_left step = to_the_end (step_if_left step)
