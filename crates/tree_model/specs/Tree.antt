-- The functions and inlined calls that the entries of a file tell of, and the first place at which one is bad.
use Rattle.std.specs.Prelude.{ℕ, zero, suc, ◌+◌, nat_lt, if◌then◌else◌, List, [], ◌∷◌, ◌++◌, take, drop, length, Option, None, Some, Result, Ok, Err}
use Rattle.std.specs.List.{flat_map}
use Rattle.refusal.specs.declared.kind.Kind.TheVariants.{InlineTooDeep}
use Rattle.refusal.specs.declared.place.Place.{Place}
use Rattle.refusal.specs.Place.{in_binary}
use Rattle.range_model.specs.Lists.{RangeSections}
use Rattle.unit_model.specs.Entries.{Entry}
use Rattle.unit_model.specs.Units as model
use Rattle.tree_model.specs.Bases.{base_address, bases_of_unit}
use Rattle.tree_model.specs.Pieces.{InUnit, and_then, pieces}
use Rattle.tree_model.specs.Way.{Info}
use Rattle.tree_model.specs.Origin.{origin}
use Rattle.tree_model.specs.Members.{Told, call_told, function_told, is_call, is_function}
use Rattle.tree_model.specs.Depths.{Standing, calls_on, inlined_into, way_up}

-- One step, and behind it the next, which knows what came of it.
infixl 10 ◌>>=◌
abbrev pub ◌>>=◌ : {X Y : Type 0} → Result X Place → (X → Result Y Place) → Result Y Place
first >>= next = and_then first next

infixl 10 ◌>>◌
abbrev pub ◌>>◌ : {X Y : Type 0} → Result X Place → Result Y Place → Result Y Place
first >> next = and_then first (λ _. next)

-- What the entries of a file are read by: its bytes, the sections of its ranges, addresses and texts, and what its
-- debugging information says.
pub record Source : Type 0 where
  pub file : List ℕ
  pub sections : RangeSections
  pub info : Info

-- The functions so far, each a list of members: itself, then the calls inlined into it; and how many pieces the entries
-- have.
pub record Tree : Type 0 where
  pub functions : List (List Told)
  pub pieces : ℕ

-- A function more, which gets the next number.
abbrev pub with_function : Told → Tree → Tree
with_function function tree = record {
  functions = tree.functions ++ (function ∷ []) ∷ [];
  pieces = tree.pieces + length function.pieces;
}

-- A call more behind the members of the function of a number.
abbrev pub with_member : {T : Type 0} → ℕ → T → List (List T) → List (List T)
with_member number call [] = []
with_member zero call (function ∷ rest) = (function ++ call ∷ []) ∷ rest
with_member (suc number) call (function ∷ rest) = function ∷ with_member number call rest

-- The functions with a call more, where it is inlined into one of them.
abbrev pub with_call : {T : Type 0} → Option ℕ → T → List (List T) → List (List T)
with_call None call functions = functions
with_call (Some number) call functions = with_member number call functions

-- The deepest that inlined calls can stand.
abbrev pub max_calls : ℕ
max_calls = 255

-- So many inlined calls may stand in one another, and no more.
abbrev pub not_too_deep : ℕ → ℕ → Result (Unit {0}) Place
not_too_deep at calls = if nat_lt max_calls calls then Err (in_binary at InlineTooDeep) else Ok tt

-- A subprogram with these pieces: a function, where it has any.
abbrev pub function_with : Source → Entry → Tree → List (ℕ × ℕ) → Result Tree Place
function_with source entry tree [] = Ok tree
function_with source entry tree (piece ∷ more) = do
  origin ← origin source.sections.texts source.info entry
  Ok (with_function (function_told entry (piece ∷ more) origin) tree)

-- The next subprogram: a function, where it has pieces.
-- Why: A function inside another one is a function of its own, behind all members of the outer one: functions stay in
-- the order of `.debug_info`.
unfoldable pub next_function : Source → InUnit → Entry → Tree → Result Tree Place
next_function source of entry tree = do
  pieces ← pieces source.file of tree.pieces entry
  function_with source entry tree pieces

-- An inlined subroutine with these pieces, so many calls deep, itself included: a call, where it has any. It is a
-- member where it is inlined into the function of a number.
abbrev pub call_with : Source → Option ℕ → ℕ → Entry → Tree → List (ℕ × ℕ) → Result Tree Place
call_with source number calls entry tree [] = Ok tree
call_with source number calls entry tree (piece ∷ more) = do
  origin ← origin source.sections.texts source.info entry
  Ok (record {
    functions = with_call number (call_told calls entry (piece ∷ more) origin) tree.functions;
    pieces = tree.pieces + length (piece ∷ more);
  })

-- The next inlined subroutine, which has a way up, behind so many functions in the units before.
-- Why: Inlined calls below one without live code are judged and count toward the limit, but are no members.
unfoldable pub next_call : Source → InUnit → ℕ → List Standing → Entry → Tree → Result Tree Place
next_call source of before way entry tree = do
  not_too_deep entry.at (length (calls_on way) + 1)
  pieces ← pieces source.file of tree.pieces entry
  call_with source (inlined_into source.file of before way) (length (calls_on way) + 1) entry tree pieces

-- The next entry of a unit, with those of the unit before it, the last one first. One that is neither a subprogram nor
-- an inlined subroutine tells nothing.
unfoldable pub next_entry : Source → InUnit → ℕ → List Entry → Entry → Tree → Result Tree Place
next_entry source of before earlier entry tree =
    if is_function entry then next_function source of entry tree
    else (if is_call entry then next_call source of before (way_up entry.depth earlier) entry tree else Ok tree)

-- Entries one behind the other.
abbrev pub next_entries : Source → InUnit → ℕ → List Entry → List Entry → Tree → Result Tree Place
next_entries source of before earlier [] tree = Ok tree
next_entries source of before earlier (entry ∷ rest) tree =
    next_entry source of before earlier entry tree >>= next_entries source of before (entry ∷ earlier) rest

-- The entries of a unit.
abbrev pub entries_of_unit : List Entry → model.Unit → List Entry
entries_of_unit entries unit = take unit.count (drop unit.first entries)

-- What the ranges of the entries of a unit are read by, by the number of the unit.
abbrev pub in_unit : Source → ℕ → model.Unit → ℕ → InUnit
in_unit source number unit base = record {
  sections = source.sections;
  version = unit.version;
  base = base;
  bases = bases_of_unit source.info.units number;
}

-- The next unit: its base address, then its entries.
unfoldable pub next_unit : Source → ℕ → model.Unit → Tree → Result Tree Place
next_unit source number unit tree = do
  base ← base_address source.sections.texts source.info.units number
  next_entries source (in_unit source number unit base) (length tree.functions) []
      (entries_of_unit source.info.units.entries unit) tree

-- Units one behind the other, the first having a number.
abbrev pub next_units : Source → ℕ → List model.Unit → Tree → Result Tree Place
next_units source number [] tree = Ok tree
next_units source number (unit ∷ rest) tree = next_unit source number unit tree >>= next_units source (number + 1) rest

-- All functions of a file with their inlined calls, in the order of the functions' entries, or the first bad place.
unfoldable pub members : Source → Result (List Told) Place
members source = do
  tree ← next_units source 0 source.info.units.units (record { functions = []; pieces = 0 })
  Ok (flat_map (λ function. function) tree.functions)
