-- How a map of places tells a program, and rows tell what was sampled of it.
use Rattle.std.specs.Prelude.{◌≡◌, ℕ, ◌<◌, List, length, slice_get, Option, None, Some, IsSome}
use Rattle.std.specs.List.Sorted.{IsSorted}
use Rattle.profile_lists.specs.Laws.{factor_by, place_by}
use Rattle.key_types.specs.declared.ids.KeyId.{KeyId}
use Rattle.key_types.specs.declared.ids.NameId.{NameId}
use Rattle.key_types.specs.declared.key.Key.{Key}
use Rattle.key_types.specs.declared.places.Seg.{Seg}
use Rattle.key_types.specs.declared.places.Where.{Where}
use Rattle.key_types.specs.declared.places.Where.TheVariants.{Outside, Nameless, NoLine, At}
use Rattle.sample_model.specs.declared.pair.Pair.{Pair}
use Rattle.branch_counts.specs.Pair.{pair_cmp}
use Rattle.branch_counts.specs.Table.{Tallies}
use Rattle.profile_model.specs.Ways.{Way}
use Rattle.binary_model.specs.Places.{Place}
use Rattle.binary_model.specs.Told.{TellsBy}
use Rattle.profile_report.specs.declared.report.BranchUnits.{BranchUnits}
use Rattle.profile_tree.specs.Said.{way_at}
use Rattle.report_model.specs.Report.{Sampled}
use Rattle.output_model.specs.Program.{Program}

-- The number of the key of an answer.
abbrev pub key_of : Where → Option ℕ
key_of Outside = None
key_of Nameless = None
key_of NoLine = None
key_of (At key) = Some key.0

-- A key of this number has this way.
pub record HasWay (names : List (List ℕ)) (keys : List Key) (way : Way) (id : KeyId) : Type 0 where
  pub inside : id.0 < length keys
  pub way_is : way_at names keys id.0 ≡ way

-- An answer tells a place, a way by a key that has it.
abbrev pub TellsPlace : List (List ℕ) → List Key → Place → Where → Type 0
TellsPlace names keys place answer = TellsBy (HasWay names keys) place answer

-- An answer tells a name: it is the name's number.
abbrev pub TellsName : List (List ℕ) → Option (List ℕ) → Option NameId → Type 0
TellsName names None answer = answer ≡ None
TellsName names (Some name) answer = (id : NameId) × (answer ≡ Some id) × (slice_get names id.0 ≡ Some name)

-- A map's answers tell a program's places, functions and entered names, and segments have its keys and factors.
pub record TellsProgram (program : Program) (names : List (List ℕ)) (keys : List Key) (segments : List Seg)
    (place : ℕ → Where) (function : ℕ → Option ℕ) (entered : ℕ → Option NameId) : Type 0 where
  pub places : (address : ℕ) → TellsPlace names keys (program.place address) (place address)
  pub functions : (address : ℕ) → function address ≡ program.function address
  pub entrances : (address : ℕ) → TellsName names (program.entered address) (entered address)
  pub keys_told : (address : ℕ) → place_by segments address ≡ key_of (place address)
  pub factors_told : (address : ℕ)
      → IsSome (place_by segments address) → factor_by segments address ≡ program.factor address

-- Rows and numbers of units tell what was sampled: the branches' rows in order, the ranges' in any.
pub record TellsSampled (sampled : Sampled) (branches ranges : List Pair) (units : BranchUnits) : Type 0 where
  pub of_branches : Tallies sampled.branches branches
  pub of_ranges : Tallies sampled.ranges ranges
  pub in_order : IsSorted pair_cmp branches
  pub read : units.read ≡ sampled.units_read
  pub passed : units.passed ≡ sampled.units_passed
