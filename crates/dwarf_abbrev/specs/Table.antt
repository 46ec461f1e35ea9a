-- What reading attributes gives.
use Rattle.std.specs.Prelude.{◌≡◌, List, ◌∷◌, [], ◌++◌, Option, None, Some, Result, Ok, Err, ⊤}
use Rattle.byte_view.specs.Cursor.{Cursor}
use Rattle.refusal.specs.declared.place.Stop.{Stop}
use Rattle.refusal.specs.declared.place.Stop.TheVariants.{Refused, NoMemory}
use Rattle.refusal.specs.declared.place.Place.{Place}
use Rattle.placed_view.specs.Reader.{Read, Gives}
use Rattle.unit_model.specs.Abbrev.{Attr}
use Rattle.unit_model.specs.Table.{next_attr}

-- A list of attributes with one more, where there is one.
abbrev pub more_attrs : List Attr → Option Attr → Option (List Attr)
more_attrs before None = None
more_attrs before (Some attr) = Some (before ++ attr ∷ [])

-- The next attribute is read, whichever stand before it.
abbrev pub ReadsAttr : Result (Option Attr) Place → Cursor → Cursor → Type 0
ReadsAttr result old new = (before : List Attr) → Gives (more_attrs before) result new (next_attr before old)

-- The attributes that are read stand behind the others.
abbrev pub ReadsAttrs : Result (Unit {0}) Stop → List Attr → List Attr → Cursor → Read (List Attr) → Type 0
ReadsAttrs (Ok done) old new cur read = (more : List Attr) × (new ≡ old ++ more) × (read ≡ Ok (more, cur))
ReadsAttrs (Err (Refused place)) old new cur read = read ≡ Err place
ReadsAttrs (Err NoMemory) old new cur read = ⊤
