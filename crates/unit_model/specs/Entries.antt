-- The entries of a unit (DWARF 5, section 7.5.2).
use Rattle.std.specs.Prelude.{ℕ, ◌+◌, ◌-◌, ◌^◌, Bool, ◌==◌, nat_lt, nat_le, if◌then◌else◌, List, [], ◌∷◌, ◌++◌, length, Option, None, Some}
use Rattle.refusal.specs.declared.kind.Kind.TheVariants.{UnknownAbbrev, TooDeep, TooManyEntries}
use Rattle.placed_view.specs.Reader.{Reader, ◌>>=◌, ◌>>◌, gives, place, refuse, refuse_if, uleb}
use Rattle.placed_view.specs.Steps.{while_left}
use Rattle.unit_model.specs.Abbrev.{Abbrev, find_code}
use Rattle.unit_model.specs.Values.{Found, values}

-- An entry: where it stands in the file, how deep it stands among the entries of its unit, its tag, the number of its
-- unit, and its wanted attributes in the order of the abbreviation.
pub record Entry : Type 0 where
  pub at : ℕ
  pub depth : ℕ
  pub tag : ℕ
  pub unit : ℕ
  pub found : List Found

-- The unit whose entries are read: its number, and whether it is 64-bit DWARF.
pub record InUnit : Type 0 where
  pub unit : ℕ
  pub wide : Bool

-- The entries of the file so far, and how deep the next one stands.
pub record SoFar : Type 0 where
  pub depth : ℕ
  pub entries : List Entry

-- The deepest that an entry can stand.
abbrev pub max_depth : ℕ
max_depth = 1024

-- The most entries of a file.
abbrev pub max_entries : ℕ
max_entries = 2 ^ 24

-- The code 0 closes a level. At depth 0 it is padding.
abbrev pub closed : SoFar → SoFar
closed so_far = record { depth = so_far.depth - 1; entries = so_far.entries }

-- The entry of an abbreviation, whose code stands at a place. Behind one with children the next stands deeper.
unfoldable pub entry_of : InUnit → ℕ → Abbrev → SoFar → Reader SoFar
entry_of of at kind so_far = do
  refuse_if (nat_lt max_depth so_far.depth) at TooDeep
  refuse_if (nat_le max_entries (length so_far.entries)) at TooManyEntries
  found ← values of.wide kind.tag kind.attrs
  gives (record {
    depth = if kind.children then so_far.depth + 1 else so_far.depth;
    entries = so_far.entries
        ++ record { at = at; depth = so_far.depth; tag = kind.tag; unit = of.unit; found = found } ∷ [];
  })

-- The entry of an abbreviation, where the table has one.
abbrev pub entry_if_known : InUnit → ℕ → Option Abbrev → SoFar → Reader SoFar
entry_if_known of at None so_far = refuse at UnknownAbbrev
entry_if_known of at (Some kind) so_far = entry_of of at kind so_far

-- What a code that was read at a place begins.
unfoldable pub entry_of_code : InUnit → List Abbrev → ℕ → ℕ → SoFar → Reader SoFar
entry_of_code of table at code so_far =
    if code == 0 then gives (closed so_far) else entry_if_known of at (find_code table code) so_far

-- The next entry, or the code that closes a level.
unfoldable pub next_entry : InUnit → List Abbrev → SoFar → Reader SoFar
next_entry of table so_far = do
  at ← place
  code ← uleb
  entry_of_code of table at code so_far

-- The entries of a unit up to its end, behind those of the units before it.
unfoldable pub entries : InUnit → List Abbrev → List Entry → Reader (List Entry)
entries of table before = do
  all ← while_left (next_entry of table) (record { depth = 0; entries = before })
  gives all.entries
