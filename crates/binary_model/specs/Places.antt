-- The place of an address of a binary, in names.
use Rattle.std.specs.Prelude.{ℕ, ◌+◌, Bool, List, [], ◌∷◌, ◌++◌, map, slice_get, Option, unwrap_or, option_and_then}
use Rattle.std.specs.Option.{option_map}
use Rattle.key_types.specs.declared.key.Key.{Key}
use Rattle.key_types.specs.Numbers.{name_of}
use Rattle.line_model.specs.Rows.{Sequence, row_among}
use Rattle.chain_model.specs.declared.member.Member.{Member}
use Rattle.chain_model.specs.Places as by_number
use Rattle.chain_model.specs.Places.{LineAndDisc, place_at}
use Rattle.tree_model.specs.Members.{Told}
use Rattle.profile_model.specs.Ways.{Way, to_function, to_call, to_body}
use Rattle.binary_model.specs.Binary.{members_in, tables_in}

-- The place of an address: no function holds it, a member of its chain has no name, it has no line, or it is this way
-- of a profile: a function, the calls inlined into it, and a line of the innermost.
pub data Place : Type 0 where
  outside : Place
  nameless : Place
  no_line : Place
  at_way : Way → Place

-- A key as a way.
abbrev pub way_of : List (List ℕ) → Key → Way
way_of names key =
    to_function (name_of names key.root)
    ∷ map (λ call. to_call call.offset call.disc (name_of names call.name)) key.calls
    ++ to_body key.offset key.disc ∷ []

-- A place that is told by numbers of names.
abbrev pub in_names : List (List ℕ) → by_number.Place → Place
in_names names by_number.outside = outside
in_names names by_number.nameless = nameless
in_names names by_number.no_line = no_line
in_names names (by_number.has_key key) = at_way (way_of names key)

-- Functions and inlined calls whose names are numbered by their own places in the list.
-- Why: Here members are numbered by their own place, and in the code names one to one: two numberings tell the same
-- places.
abbrev pub numbered_from : ℕ → List Told → List Member
numbered_from n [] = []
numbered_from n (told ∷ rest) =
    record {
      depth = told.depth;
      unit = told.unit;
      name = option_map (λ name. record { 0 = n }) told.name;
      start = told.start;
      line = told.line;
      disc = told.disc;
      pieces = told.pieces;
    }
    ∷ numbered_from (n + 1) rest

-- The names of members, at the numbers of their places.
abbrev pub names_of : List Told → List (List ℕ)
names_of members = map (λ told. unwrap_or told.name []) members

-- Line and discriminator of an address, by the sequences of its unit.
-- Why: The row of an address is a function of unit and address, which knows no row table. A unit without a table has no
-- rows.
abbrev pub row_in : List (Option (List Sequence)) → ℕ → ℕ → Option LineAndDisc
row_in tables unit address =
    option_map (λ row. (row.line, row.disc))
    (option_and_then (λ table. row_among table address) (option_and_then (λ table. table) (slice_get tables unit)))

-- The place of an address among members, by the sequences of each unit. Where `base` is asked, discriminators are
-- bases.
unfoldable pub place_among : List (Option (List Sequence)) → Bool → List Told → ℕ → Place
place_among tables base members address =
    in_names (names_of members) (place_at (row_in tables) base (numbered_from 0 members) address)

-- The place of an address of a good binary.
unfoldable pub place_of_address : List ℕ → Bool → ℕ → Place
place_of_address file base address = place_among (tables_in file) base (members_in file) address
