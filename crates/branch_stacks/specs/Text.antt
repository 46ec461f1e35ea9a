-- What reading a branch text, or one of its lines, gives.
use Rattle.std.specs.Prelude.{ℕ, List, take, Option, None, Result, Ok, Err, ⊤}
use Rattle.std.specs.Option.{option_map}
use Rattle.refusal.specs.declared.place.Place.{Place}
use Rattle.refusal.specs.declared.place.Stop.{Stop}
use Rattle.refusal.specs.declared.place.Stop.TheVariants.{Refused, NoMemory}
use Rattle.sample_model.specs.Judging.{cause_of_line, lines_before_bad}
use Rattle.sample_model.specs.Moves.{LoadMap}
use Rattle.branch_counts.specs.Tally.{Tally, total_of, Tells}

-- The place of a line of this number behind those that were counted, if it is refused.
abbrev pub item_of_counted : ℕ → Tally → ℕ → List ℕ → Option Place
item_of_counted file tally number line =
    option_map (λ kind. record { file = file; at = number; kind = kind }) (cause_of_line (total_of tally) line)

-- The lines before the first bad one were counted. Where memory was refused, it was before some line among them.
abbrev pub TellsBefore : {T : Type 0} → Option LoadMap → ℕ → List (List ℕ) → Result T Stop → Tally → Type 0
TellsBefore loading file lines (Ok done) tally = ⊤
TellsBefore loading file lines (Err (Refused place)) tally = Tells loading (lines_before_bad file lines) tally
TellsBefore loading file lines (Err NoMemory) tally =
    (n : ℕ) × Tells loading (take n (lines_before_bad file lines)) tally

-- The same of lines whose addresses are as they stand.
abbrev pub TellsLinesBefore : {T : Type 0} → ℕ → List (List ℕ) → Result T Stop → Tally → Type 0
TellsLinesBefore file lines result tally = TellsBefore None file lines result tally
