-- The units and entries of a small file.
use Rattle.std.proofs.Common.{◌≡◌, ℕ, true, false, List, [], ◌∷◌, length, map, filter, Option, Some, Ok, Err, refl}
use Rattle.std.specs.Prelude.{Result}
use Rattle.std.specs.Result.{result_err}
use Rattle.refusal.specs.declared.kind.Kind.{Kind}
use Rattle.refusal.specs.declared.kind.Kind.TheVariants.{BadAddressSize, BadUnitLength, BadVersion, PastSection, Short}
use Rattle.refusal.specs.declared.place.Place.{Place}
use Rattle.refusal.specs.Place.{in_binary}
use Rattle.byte_view.specs.Reading.{field_at, run_at, text_at, uleb_at, sleb_at}
use Rattle.placed_view.specs.Reader.{Read, field, sleb, uleb}
use Rattle.value_model.specs.Value.{Value, addr, addr_index, block, const, flag, line_str_at, loc_index, offset, range_index, ref, ref_info, sig, str_at, str_index, text}
use Rattle.value_model.specs.Forms.{operand_of}
use Rattle.value_model.specs.Reading.{value_at}
use Rattle.unit_model.specs.Abbrev.{find_code}
use Rattle.unit_model.specs.Table.{abbrev_behind, abbrev_of, attrs, children_byte, implicit, next_abbrev, next_attr, table}
use Rattle.unit_model.specs.Wanted.{accepts, wanted}
use Rattle.unit_model.specs.Values.{next_value, value, values}
use Rattle.unit_model.specs.Entries.{entries, entry_of, entry_of_code, max_depth, max_entries, next_entry}
use Rattle.unit_model.specs.Header.{abbrevs_at, address_size, header, header_4, header_5, header_5_behind, sized, unit_length}
use Rattle.unit_model.specs.Units.{Units, next_unit, unit_body, units}

abbrevs : List ℕ
abbrevs =
    0x01 ∷ 0x11 ∷ 0x01 ∷ 0x10 ∷ 0x17 ∷ 0x00 ∷ 0x00 ∷ 0x02 ∷ 0x2e ∷ 0x00 ∷ 0x03 ∷ 0x08 ∷ 0x3b ∷ 0x0b ∷ 0x00 ∷ 0x00 ∷ 0x03 ∷ 0x2e ∷
    0x01 ∷ 0x03 ∷ 0x08 ∷ 0x3b ∷ 0x05 ∷ 0x11 ∷ 0x01 ∷ 0x12 ∷ 0x06 ∷ 0x00 ∷ 0x00 ∷ 0x04 ∷ 0x1d ∷ 0x00 ∷ 0x31 ∷ 0x13 ∷ 0x11 ∷ 0x01 ∷
    0x12 ∷ 0x06 ∷ 0x59 ∷ 0x05 ∷ 0xb6 ∷ 0x42 ∷ 0x0b ∷ 0x00 ∷ 0x00 ∷ 0x00 ∷ []

info : List ℕ
info =
    0x3b ∷ 0x00 ∷ 0x00 ∷ 0x00 ∷ 0x04 ∷ 0x00 ∷ 0x00 ∷ 0x00 ∷ 0x00 ∷ 0x00 ∷ 0x08 ∷ 0x01 ∷ 0x00 ∷ 0x00 ∷ 0x00 ∷ 0x00 ∷ 0x02 ∷ 0x67 ∷
    0x00 ∷ 0x05 ∷ 0x03 ∷ 0x66 ∷ 0x30 ∷ 0x30 ∷ 0x30 ∷ 0x30 ∷ 0x00 ∷ 0x0a ∷ 0x00 ∷ 0x00 ∷ 0x10 ∷ 0x40 ∷ 0x00 ∷ 0x00 ∷ 0x00 ∷ 0x00 ∷
    0x00 ∷ 0x40 ∷ 0x00 ∷ 0x00 ∷ 0x00 ∷ 0x04 ∷ 0x10 ∷ 0x00 ∷ 0x00 ∷ 0x00 ∷ 0x10 ∷ 0x10 ∷ 0x40 ∷ 0x00 ∷ 0x00 ∷ 0x00 ∷ 0x00 ∷ 0x00 ∷
    0x10 ∷ 0x00 ∷ 0x00 ∷ 0x00 ∷ 0x0c ∷ 0x00 ∷ 0x01 ∷ 0x00 ∷ 0x00 ∷ []

read : List ℕ → Read Units
unfolding abbrevs
read bytes = units (Some (record { at = 120; left = abbrevs })) (record { at = 166; left = bytes })

-- a unit, a function, and a function with an inlined call of the first
small_file : read info
    ≡ Ok (
      (record {
        units = record { at = 166; end = 229; version = 4; wide = false; first = 0; count = 4 } ∷ [];
        entries = record { at = 177; depth = 0; tag = 0x11; unit = 0; found = record { name = 0x10; at = 178; value = offset 0 } ∷ [] }
            ∷ record {
              at = 182;
              depth = 1;
              tag = 0x2e;
              unit = 0;
              found = record { name = 3; at = 183; value = text (0x67 ∷ []) } ∷ record { name = 0x3b; at = 185; value = const 5 } ∷ [];
            }
            ∷ record {
              at = 186;
              depth = 1;
              tag = 0x2e;
              unit = 0;
              found = record { name = 3; at = 187; value = text (0x66 ∷ 0x30 ∷ 0x30 ∷ 0x30 ∷ 0x30 ∷ []) }
                  ∷ record { name = 0x3b; at = 193; value = const 10 }
                  ∷ record { name = 0x11; at = 195; value = addr 0x401000 }
                  ∷ record { name = 0x12; at = 203; value = const 0x40 }
                  ∷ [];
            }
            ∷ record {
              at = 207;
              depth = 2;
              tag = 0x1d;
              unit = 0;
              found = record { name = 0x31; at = 208; value = ref 16 }
                  ∷ record { name = 0x11; at = 212; value = addr 0x401010 }
                  ∷ record { name = 0x12; at = 220; value = const 16 }
                  ∷ record { name = 0x59; at = 224; value = const 12 }
                  ∷ record { name = 0x2136; at = 226; value = const 1 }
                  ∷ [];
            }
            ∷ [];
        skipped = [];
      }),
      record { at = 229; left = [] },
    )
unfolding abbrevs info read abbrev_behind abbrev_of abbrevs_at address_size attrs children_byte entries entry_of entry_of_code field field_at find_code header header_4 header_5 header_5_behind implicit next_abbrev next_attr next_entry next_unit next_value operand_of run_at sized sleb sleb_at table text_at uleb uleb_at unit_body unit_length units value value_at values wanted
small_file = refl

-- What is read of a section: the versions of units and how deep their entries stand, and where units are passed over; or
-- the first bad place.
abbrev Shown : Type 0
Shown = Result (List ℕ × List ℕ × List (ℕ × ℕ)) Place

abbrev shown_of : Read Units → Shown
shown_of (Ok (told, cur)) = Ok (map (λ unit. unit.version) told.units, map (λ entry. entry.depth) told.entries, told.skipped)
shown_of (Err place) = Err place

abbrev shown : List ℕ → Shown
shown bytes = shown_of (read bytes)

abbrev bad : ℕ → Kind → Option Place
bad at kind = Some (in_binary at kind)

-- units without entries, of both versions and kinds, in 32 and in 64 bits
units_that_are_read :
    (shown (7 ∷ 0 ∷ 0 ∷ 0 ∷ 4 ∷ 0 ∷ 0 ∷ 0 ∷ 0 ∷ 0 ∷ 8 ∷ []) ≡ Ok (4 ∷ [], [], []))
    × (shown (8 ∷ 0 ∷ 0 ∷ 0 ∷ 5 ∷ 0 ∷ 1 ∷ 8 ∷ 0 ∷ 0 ∷ 0 ∷ 0 ∷ []) ≡ Ok (5 ∷ [], [], []))
    × (shown (8 ∷ 0 ∷ 0 ∷ 0 ∷ 5 ∷ 0 ∷ 3 ∷ 8 ∷ 0 ∷ 0 ∷ 0 ∷ 0 ∷ []) ≡ Ok (5 ∷ [], [], []))
    × (shown (255 ∷ 255 ∷ 255 ∷ 255 ∷ 12 ∷ 0 ∷ 0 ∷ 0 ∷ 0 ∷ 0 ∷ 0 ∷ 0 ∷ 5 ∷ 0 ∷ 1 ∷ 8 ∷ 0 ∷ 0 ∷ 0 ∷ 0 ∷ 0 ∷ 0 ∷ 0 ∷ 0 ∷ []) ≡ Ok (5 ∷ [], [], []))
unfolding abbrevs read abbrev_behind abbrev_of abbrevs_at address_size attrs children_byte entries entry_of entry_of_code field field_at find_code header header_4 header_5 header_5_behind implicit next_abbrev next_attr next_entry next_unit next_value operand_of run_at sized sleb sleb_at table text_at uleb uleb_at unit_body unit_length units value value_at values wanted
units_that_are_read = (refl, refl, refl, refl)

-- units of length 0, of versions 2 and 3, and of other types in version 5, whatever stands behind
units_that_are_passed_over : shown
    (0 ∷ 0 ∷ 0 ∷ 0 ∷ 3 ∷ 0 ∷ 0 ∷ 0 ∷ 2 ∷ 0 ∷ 9 ∷ 2 ∷ 0 ∷ 0 ∷ 0 ∷ 3 ∷ 0
    ∷ 4 ∷ 0 ∷ 0 ∷ 0 ∷ 5 ∷ 0 ∷ 2 ∷ 9 ∷ 3 ∷ 0 ∷ 0 ∷ 0 ∷ 5 ∷ 0 ∷ 0 ∷ 3 ∷ 0 ∷ 0 ∷ 0 ∷ 5 ∷ 0 ∷ 4 ∷ 3 ∷ 0 ∷ 0 ∷ 0 ∷ 5 ∷ 0 ∷ 0x80 ∷ [])
    ≡ Ok ([], [], (166, 170) ∷ (170, 177) ∷ (177, 183) ∷ (183, 191) ∷ (191, 198) ∷ (198, 205) ∷ (205, 212) ∷ [])
unfolding abbrevs read abbrev_behind abbrev_of abbrevs_at address_size attrs children_byte entries entry_of entry_of_code field field_at find_code header header_4 header_5 header_5_behind implicit next_abbrev next_attr next_entry next_unit next_value operand_of run_at sized sleb sleb_at table text_at uleb uleb_at unit_body unit_length units value value_at values wanted
units_that_are_passed_over = refl

-- each cause of a header, at its field
bad_headers : map (λ bytes. result_err (shown bytes)) (
    (7 ∷ 0 ∷ 0 ∷ []) ∷ (0xf0 ∷ 255 ∷ 255 ∷ 255 ∷ []) ∷ (0xfe ∷ 255 ∷ 255 ∷ 255 ∷ []) ∷ (255 ∷ 255 ∷ 255 ∷ 255 ∷ 0 ∷ 0 ∷ 0 ∷ 0 ∷ [])
    ∷ (2 ∷ 0 ∷ 0 ∷ 0 ∷ 2 ∷ []) ∷ (1 ∷ 0 ∷ 0 ∷ 0 ∷ 2 ∷ []) ∷ (2 ∷ 0 ∷ 0 ∷ 0 ∷ 1 ∷ 0 ∷ []) ∷ (2 ∷ 0 ∷ 0 ∷ 0 ∷ 6 ∷ 0 ∷ [])
    ∷ (5 ∷ 0 ∷ 0 ∷ 0 ∷ 4 ∷ 0 ∷ 0 ∷ 0 ∷ 0 ∷ []) ∷ (7 ∷ 0 ∷ 0 ∷ 0 ∷ 4 ∷ 0 ∷ 47 ∷ 0 ∷ 0 ∷ 0 ∷ 4 ∷ []) ∷ (7 ∷ 0 ∷ 0 ∷ 0 ∷ 4 ∷ 0 ∷ 46 ∷ 0 ∷ 0 ∷ 0 ∷ 4 ∷ [])
    ∷ (6 ∷ 0 ∷ 0 ∷ 0 ∷ 4 ∷ 0 ∷ 0 ∷ 0 ∷ 0 ∷ 0 ∷ []) ∷ (2 ∷ 0 ∷ 0 ∷ 0 ∷ 5 ∷ 0 ∷ []) ∷ (3 ∷ 0 ∷ 0 ∷ 0 ∷ 5 ∷ 0 ∷ 1 ∷ [])
    ∷ (8 ∷ 0 ∷ 0 ∷ 0 ∷ 5 ∷ 0 ∷ 1 ∷ 4 ∷ 47 ∷ 0 ∷ 0 ∷ 0 ∷ []) ∷ (8 ∷ 0 ∷ 0 ∷ 0 ∷ 5 ∷ 0 ∷ 1 ∷ 8 ∷ 47 ∷ 0 ∷ 0 ∷ 0 ∷ []) ∷ [])
    ≡ bad 166 BadUnitLength ∷ bad 166 BadUnitLength ∷ bad 166 BadUnitLength ∷ bad 166 BadUnitLength
    ∷ bad 166 BadUnitLength ∷ bad 170 Short ∷ bad 170 BadVersion ∷ bad 170 BadVersion
    ∷ bad 172 Short ∷ bad 172 PastSection ∷ bad 176 BadAddressSize
    ∷ bad 176 Short ∷ bad 172 Short ∷ bad 173 Short
    ∷ bad 173 BadAddressSize ∷ bad 174 PastSection ∷ []
unfolding abbrevs read abbrev_behind abbrev_of abbrevs_at address_size attrs children_byte entries entry_of entry_of_code field field_at find_code header header_4 header_5 header_5_behind implicit next_abbrev next_attr next_entry next_unit next_value operand_of run_at sized sleb sleb_at table text_at uleb uleb_at unit_body unit_length units value value_at values wanted
bad_headers = refl

-- Behind an entry with children the next stands deeper. The code 0 closes a level, and is padding where none is open.
depths : shown
    (28 ∷ 0 ∷ 0 ∷ 0 ∷ 4 ∷ 0 ∷ 0 ∷ 0 ∷ 0 ∷ 0 ∷ 8 ∷ 0 ∷ 1 ∷ 0 ∷ 0 ∷ 0 ∷ 0 ∷ 2 ∷ 0 ∷ 0 ∷ 2 ∷ 0 ∷ 0 ∷ 0 ∷ 0 ∷ 0 ∷ 0 ∷ 1 ∷ 0 ∷ 0 ∷ 0 ∷ 0 ∷ [])
    ≡ Ok (4 ∷ [], 0 ∷ 1 ∷ 1 ∷ 0 ∷ [], [])
unfolding abbrevs read abbrev_behind abbrev_of abbrevs_at address_size attrs children_byte entries entry_of entry_of_code field field_at find_code header header_4 header_5 header_5_behind implicit next_abbrev next_attr next_entry next_unit next_value operand_of run_at sized sleb sleb_at table text_at uleb uleb_at unit_body unit_length units value value_at values wanted
depths = refl

-- the classes of values, by numbers
classes : List (ℕ × Value)
classes =
    (1, addr 0) ∷ (2, block []) ∷ (3, const 0) ∷ (4, text []) ∷ (5, flag true) ∷ (6, str_at 0) ∷ (7, line_str_at 0) ∷ (8, str_index 0)
    ∷ (9, addr_index 0) ∷ (10, ref_info 0) ∷ (11, ref 0) ∷ (12, sig 0) ∷ (13, offset 0) ∷ (14, loc_index 0) ∷ (15, range_index 0) ∷ []

accepted : ℕ → ℕ → List ℕ
accepted tag name = map (λ class. class.0) (filter (λ class. accepts (wanted tag name) class.1) classes)

-- the wanted attributes with the classes of each (DWARF 5, table 7.5), and one that is not wanted
wanted_attributes : map (accepted 0x2e)
    (0x03 ∷ 0x6e ∷ 0x2007 ∷ 0x10 ∷ 0x72 ∷ 0x73 ∷ 0x74 ∷ 0x11 ∷ 0x12 ∷ 0x31 ∷ 0x47 ∷ 0x3b ∷ 0x59 ∷ 0x2136 ∷ 0x55 ∷ 0x02 ∷ [])
    ≡ (4 ∷ 6 ∷ 7 ∷ 8 ∷ []) ∷ (4 ∷ 6 ∷ 7 ∷ 8 ∷ []) ∷ (4 ∷ 6 ∷ 7 ∷ 8 ∷ []) ∷ (3 ∷ 13 ∷ []) ∷ (3 ∷ 13 ∷ []) ∷ (3 ∷ 13 ∷ []) ∷ (3 ∷ 13 ∷ [])
    ∷ (1 ∷ 9 ∷ []) ∷ (1 ∷ 3 ∷ 9 ∷ []) ∷ (10 ∷ 11 ∷ 12 ∷ []) ∷ (10 ∷ 11 ∷ 12 ∷ []) ∷ (3 ∷ []) ∷ (3 ∷ []) ∷ (3 ∷ []) ∷ (3 ∷ 13 ∷ 15 ∷ [])
    ∷ map (λ class. class.0) classes ∷ []
unfolding classes accepted wanted
wanted_attributes = refl

-- the tags that have them: roots, functions and inlined calls, and not lexical blocks, variables or type units
tags : map (λ tag. length (accepted tag 0x03)) (0x11 ∷ 0x3c ∷ 0x2e ∷ 0x1d ∷ 0x0b ∷ 0x34 ∷ 0x41 ∷ []) ≡ 4 ∷ 4 ∷ 4 ∷ 4 ∷ 15 ∷ 15 ∷ 15 ∷ []
unfolding classes accepted wanted
tags = refl

most_entries : (max_depth ≡ 1024) × (max_entries ≡ 16777216)
most_entries = (refl, refl)
