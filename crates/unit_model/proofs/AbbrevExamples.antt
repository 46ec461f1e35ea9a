-- Tables on worked bytes.
use Rattle.std.proofs.Common.{◌≡◌, pos, negsuc, true, false, [], ◌∷◌, Ok, Err, refl}
use Rattle.refusal.specs.declared.kind.Kind.TheVariants.{BadChildren, CodeTwice, Short}
use Rattle.refusal.specs.Place.{in_binary}
use Rattle.unit_model.specs.Abbrev.{Abbrev, find_code}
use Rattle.unit_model.specs.Table.{max_abbrevs, table, next_abbrev, abbrev_behind, abbrev_of, children_byte, attrs, next_attr, implicit}
use Rattle.placed_view.specs.Reader.{Read, uleb, sleb, field}
use Rattle.byte_view.specs.Reading.{uleb_at, sleb_at, field_at}
use Rattle.std.proofs.Common.{List, ℕ}

read : ℕ → List ℕ → Read (List Abbrev)
unfolding table
read at bytes = table (record { at = at; left = bytes })

-- a unit with its line program, and a text
one_of_each : read 120 (1 ∷ 0x11 ∷ 1 ∷ 0x10 ∷ 0x17 ∷ 0 ∷ 0 ∷ 2 ∷ 0x2e ∷ 0 ∷ 3 ∷ 8 ∷ 0x3b ∷ 0x21 ∷ 0x7f ∷ 0 ∷ 0 ∷ 0 ∷ 9 ∷ [])
    ≡ Ok (
      (
          record { code = 1; tag = 0x11; children = true; attrs = record { name = 0x10; form = 0x17; implicit = pos 0 } ∷ [] }
          ∷ record {
            code = 2;
            tag = 0x2e;
            children = false;
            attrs = record { name = 3; form = 8; implicit = pos 0 } ∷ record { name = 0x3b; form = 0x21; implicit = negsuc 0 } ∷ [];
          }
          ∷ []
          ),
      record { at = 138; left = 9 ∷ [] },
    )
unfolding read find_code table next_abbrev abbrev_behind abbrev_of children_byte attrs next_attr implicit uleb sleb field uleb_at sleb_at field_at
one_of_each = refl

bad_children : read 0 (1 ∷ 0x11 ∷ 2 ∷ []) ≡ Err (in_binary 2 BadChildren)
unfolding read find_code table next_abbrev abbrev_behind abbrev_of children_byte attrs next_attr implicit uleb sleb field uleb_at sleb_at field_at
bad_children = refl

same_code : read 7 (1 ∷ 0x11 ∷ 0 ∷ 0 ∷ 0 ∷ 1 ∷ []) ≡ Err (in_binary 12 CodeTwice)
unfolding read find_code table next_abbrev abbrev_behind abbrev_of children_byte attrs next_attr implicit uleb sleb field uleb_at sleb_at field_at
same_code = refl

not_ended : read 7 (1 ∷ 0x11 ∷ 0 ∷ 0 ∷ 0 ∷ []) ≡ Err (in_binary 12 Short)
unfolding read find_code table next_abbrev abbrev_behind abbrev_of children_byte attrs next_attr implicit uleb sleb field uleb_at sleb_at field_at
not_ended = refl

-- a name or a form of 0 alone ends no list, and the value of DW_FORM_implicit_const belongs to its attribute
zeros_apart : read 0 (1 ∷ 0x11 ∷ 0 ∷ 0 ∷ 8 ∷ 3 ∷ 0 ∷ 0 ∷ 0x21 ∷ 5 ∷ 0 ∷ 0 ∷ 0 ∷ [])
    ≡ Ok (
      record {
        code = 1;
        tag = 0x11;
        children = false;
        attrs = record { name = 0; form = 8; implicit = pos 0 } ∷ record { name = 3; form = 0; implicit = pos 0 } ∷ record { name = 0; form = 0x21; implicit = pos 5 } ∷ [];
      }
          ∷ [],
      record { at = 13; left = [] },
    )
unfolding read find_code table next_abbrev abbrev_behind abbrev_of children_byte attrs next_attr implicit uleb sleb field uleb_at sleb_at field_at
zeros_apart = refl

most_abbreviations : max_abbrevs ≡ 1048576
most_abbreviations = refl
