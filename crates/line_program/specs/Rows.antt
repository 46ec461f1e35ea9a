-- What the reading of a program's rows gives.
use Rattle.std.specs.Prelude.{◌≡◌, List, Result, Ok, Err, ⊤}
use Rattle.refusal.specs.declared.place.Place.{Place}
use Rattle.refusal.specs.declared.place.Stop.{Stop}
use Rattle.refusal.specs.declared.place.Stop.TheVariants.{Refused, NoMemory}
use Rattle.std.specs.Global.{Vec}
use Rattle.line_model.specs.declared.row.Row.{Row}
use Rattle.line_model.specs.Fields.{Judged}

-- The rows, or the first bad place; memory may be refused.
abbrev pub GivesRows : Result (Vec Row) Stop → Judged (List Row) → Type 0
GivesRows (Ok rows) read = read ≡ Ok rows.items
GivesRows (Err (Refused place)) read = read ≡ Err place
GivesRows (Err NoMemory) read = ⊤

-- The rows, or the place of the end that is wanted.
abbrev pub GivesEnd : Result (Vec Row) Place → Judged (List Row) → Type 0
GivesEnd (Ok rows) read = read ≡ Ok rows.items
GivesEnd (Err place) read = read ≡ Err place
