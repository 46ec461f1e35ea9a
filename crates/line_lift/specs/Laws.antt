-- What follows for texts.
use Rattle.std.specs.Prelude.{◌≡◌, ℕ, List, map, Option}
use Rattle.block_model.specs.Text.{functions_of}
use Rattle.cfg_text.specs.Fun.{function_of}
use Rattle.cfg_text.specs.declared.fun.Fun.{Fun}
use Rattle.key_types.specs.declared.key.Key.{Key}
use Rattle.key_types.specs.declared.places.Seg.{Seg}
use Rattle.output_model.specs.Lift.{held_by, lifted, repaired_in}
use Rattle.profile_model.specs.Spelled.{profile_by, spelled}
use Rattle.profile_model.specs.Ways.{Way}
use Rattle.profile_text.specs.Draft.{number_told}
use Rattle.profile_text.specs.declared.item.Item.{Item}
use Rattle.repair_model.specs.Text.{repairs_of}
use Rattle.repair_text.specs.Repair.{numbered}
use Rattle.repair_text.specs.declared.repair.Repair as read
use Rattle.line_lift.specs.Lift.{lifted_by, repaired, way_in}

-- What is lifted by numbers is what the definition lifts, where segments tell the way of each address, and functions,
-- repairs and numbers are those of their texts.
abbrev pub LinesAreLifted : Type 0
LinesAreLifted =
    (names : List (List ℕ)) (keys : List Key) (segments : List Seg) (funs : List Fun) (repairs : List read.Repair)
    (items : List Item) (way : ℕ → Option Way) (blocks out : List ℕ)
    → ((address : ℕ) → way_in names keys segments address ≡ way address)
    → map function_of funs ≡ functions_of blocks
    → map numbered repairs ≡ repairs_of (functions_of blocks) out
    → profile_by (map (number_told names keys) items) ≡ spelled out
    → lifted_by names keys segments (repaired funs repairs) items
    ≡ lifted (held_by way (repaired_in (functions_of blocks) out)) (spelled out)
