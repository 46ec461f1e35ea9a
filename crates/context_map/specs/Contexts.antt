-- What all addresses have in common whose chain ends with the same member.
use Rattle.std.specs.Prelude.{◌≡◌, ℕ, Bool, ◌==◌, List, map, slice_get, Option, None, Some, if◌then◌else◌}
use Rattle.std.specs.Option.{option_map}
use Rattle.key_types.specs.declared.key.Frame.{Frame}
use Rattle.chain_model.specs.declared.member.Member.{Member}
use Rattle.chain_model.specs.Chains.{path}
use Rattle.chain_model.specs.Places.{Place, nameless, no_line, has_key, LineAndDisc, key, place_of, row_of}
use Rattle.context_map.specs.declared.context.Context.{Context}
use Rattle.context_map.specs.declared.named.NamedPath.{NamedPath}

-- The place that names and a row give.
abbrev pub place_in : Bool → Option NamedPath → Option LineAndDisc → Place
place_in base None row = nameless
place_in base (Some named) None = no_line
place_in base (Some named) (Some row) =
    if row.0 == 0 then no_line else has_key (key base named.root named.calls.items named.start row)

-- The frames of calls, told where all of them have a name.
abbrev pub told : Bool → List Frame → Option (List Frame)
told named calls = if named then Some calls else None

-- A context of the chains that end with a member: they begin with its function, have their rows in its unit, and their
-- places are those of its names.
pub record IsContext (members : List Member) (base : Bool) (number : ℕ) (context : Context) : Type 0 where
  pub function : option_map (λ member. member.0) (slice_get (path members number) 0) ≡ Some context.function
  pub row : (rows : ℕ → ℕ → Option LineAndDisc) (address : ℕ)
      → row_of rows (map (λ member. member.1) (path members number)) address ≡ rows context.unit address
  pub place : (row : Option LineAndDisc)
      → place_of base (map (λ member. member.1) (path members number)) row ≡ place_in base context.named row
