-- The attributes of an abbreviation that tell something of its entries.
use Rattle.std.specs.Prelude.{ℕ, Bool, ◌==◌, ◌&&◌, ◌||◌, if◌then◌else◌, List, [], ◌∷◌, ◌++◌}
use Rattle.std.specs.List.{list_any}
use Rattle.unit_model.specs.Abbrev.{Attr, Abbrev}
use Rattle.unit_model.specs.Wanted.{wanted}
use Rattle.unit_model.specs.Values.{is_unused}

-- A value in this form stands in the abbreviation: DW_FORM_implicit_const.
abbrev pub is_implicit : ℕ → Bool
is_implicit form = form == 0x21

-- A value in this form takes no bytes: DW_FORM_flag_present takes none either.
abbrev pub takes_none : ℕ → Bool
takes_none form = form == 0x19 || is_implicit form

-- A name is one of these.
abbrev pub is_among : List ℕ → ℕ → Bool
is_among names name = list_any (λ other. other == name) names

-- An attribute tells nothing: its value takes no bytes, and it is not wanted, or a value in the abbreviation has its
-- name already.
abbrev pub tells_nothing : ℕ → List ℕ → Attr → Bool
tells_nothing tag told attr =
    takes_none attr.form && is_unused (wanted tag attr.name) || is_implicit attr.form && is_among told attr.name

-- The names that values in the abbreviation have, with those of one attribute more.
abbrev pub told_with : List ℕ → Attr → List ℕ
told_with told attr = if is_implicit attr.form then told ++ attr.name ∷ [] else told

-- The attributes that tell something, behind others of which these names were told.
abbrev pub telling_behind : ℕ → List ℕ → List Attr → List Attr
telling_behind tag told [] = []
telling_behind tag told (attr ∷ attrs) =
    if tells_nothing tag told attr then telling_behind tag told attrs
    else attr ∷ telling_behind tag (told_with told attr) attrs

-- An abbreviation with the attributes that tell something.
abbrev pub shortened : Abbrev → Abbrev
shortened kind = record {
  code = kind.code;
  tag = kind.tag;
  children = kind.children;
  attrs = telling_behind kind.tag [] kind.attrs;
}
