-- Repaired counts on the lines of a profile, by the numbers of names and keys.
use Rattle.std.specs.Prelude.{ℕ, List, map, Option}
use Rattle.std.specs.List.{zip}
use Rattle.std.specs.Option.{option_map}
use Rattle.block_model.specs.Function.{Function}
use Rattle.cfg_text.specs.Fun.{function_of}
use Rattle.cfg_text.specs.declared.fun.Fun.{Fun}
use Rattle.key_types.specs.Segments.{key_told}
use Rattle.key_types.specs.declared.key.Key.{Key}
use Rattle.key_types.specs.declared.places.Seg.{Seg}
use Rattle.output_model.specs.Lift.{held_by, lifted}
use Rattle.profile_model.specs.Profile.{Profile}
use Rattle.profile_model.specs.Spelled.{profile_by}
use Rattle.profile_model.specs.Ways.{Way}
use Rattle.profile_text.specs.Draft.{number_told}
use Rattle.profile_text.specs.declared.item.Item.{Item}
use Rattle.profile_tree.specs.Said.{way_at}
use Rattle.repair_model.specs.Repair.{Repair}
use Rattle.repair_text.specs.Repair.{repair_of}
use Rattle.repair_text.specs.declared.repair.Repair as read
pub use Rattle.line_lift.specs.Held.{HaveKeys}

-- The way of the key of an address, where a segment holds it.
abbrev pub way_in : List (List ℕ) → List Key → List Seg → ℕ → Option Way
way_in names keys segments address = option_map (λ key. way_at names keys key.0) (key_told segments address)

-- Functions, each with its repair.
abbrev pub repaired : List Fun → List read.Repair → List (Function × Repair)
repaired funs repairs = zip (map function_of funs) (map repair_of repairs)

-- What items say was counted, with the repaired counts of the keys that blocks hold.
abbrev pub lifted_by : List (List ℕ) → List Key → List Seg → List (Function × Repair) → List Item → Profile
lifted_by names keys segments funs items =
    lifted (held_by (way_in names keys segments) funs) (profile_by (map (number_told names keys) items))
