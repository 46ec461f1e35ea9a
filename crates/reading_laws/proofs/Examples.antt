-- The laws on worked values: what each says of a list is computed on both its sides.
use Rattle.std.proofs.Common.{◌≡◌, ℕ, Bool, true, false, ◌+◌, List, [], ◌∷◌, ◌++◌, length, map, inl, take, Option, None, Some, Result, Ok, Err, refl, arith}
use Rattle.std.specs.Prelude.{codes, count_by, slice_get}
use Rattle.std.specs.List.{filter_map, flat_map, range_with_len}
use Rattle.std.specs.Option.{option_map}
use Rattle.refusal.specs.declared.kind.Kind.{Kind}
use Rattle.refusal.specs.declared.kind.Kind.TheVariants.{BadClass, BadRangeEntry}
use Rattle.refusal.specs.Place.{in_binary}
use Rattle.byte_view.specs.Cursor.{Cursor, Reads}
use Rattle.byte_view.specs.Reading.{SpellsField, field_at, run_at, sleb_at, uleb_at}
use Rattle.load_model.specs.Segments.{address_of_offset}
use Rattle.text_model.specs.Fields.{fields_of}
use Rattle.text_model.specs.Lines.{lines_of}
use Rattle.text_model.specs.Numbers.{number_of, prefixed_of}
use Rattle.sample_model.specs.Line.{address_of, is_ip, entry_of, is_sample, branches_of_line}
use Rattle.sample_model.specs.Loads.{load_line_of, extent_of, offset_of, behind_at, loads_of, name_in}
use Rattle.sample_model.specs.Moves.{LoadMap, move_of, moved_line, moved_lines}
use Rattle.value_model.specs.Value.{Value, addr, const, offset}
use Rattle.range_model.specs.Entries.{Entry, coded_entry_at, pair_entry_at, sets_base, along, from_base}
use Rattle.range_model.specs.Lists.{Placed, entries_from, ranges_from}
use Rattle.reading_laws.specs.Lists.{Stand, Stops}
use Rattle.line_model.specs.declared.row.Row.{Row}
use Rattle.line_model.specs.Fields.{unit_at, version_at, sizes_at, opcodes_at, operations_at, lengths_at, header_at, program_at}
use Rattle.line_model.specs.Program.{rows_at, rows_in}
use Rattle.line_model.specs.Reading.{operation_at, code_at, extended_at, ulebs_at}
use Rattle.line_model.specs.Rows.{Sequence, row_in, sequences_of}
use Rattle.unit_model.specs.Abbrev.{find_code}
use Rattle.unit_model.specs.Table.{next_abbrev, table}
use Rattle.placed_view.specs.Reader.{field, uleb}
use Rattle.tree_model.specs.Bases.{root_of}
use Rattle.binary_model.specs.LinePrograms.{row_count, rows_of_unit, rows_of_units}
use Rattle.unit_model.specs.Values.{Found}
use Rattle.unit_model.specs.Entries.{Entry as UnitEntry, entries as unit_entries}
use Rattle.unit_model.specs.Header.{abbrevs_at, address_size, header, header_4, header_5, header_5_behind, sized, unit_length}
use Rattle.unit_model.specs.Units.{Unit as UnitRead, Units, next_unit, unit_body, units}
use Rattle.reading_laws.specs.Headers.{SpellsHeader, version_5}
use Rattle.reading_laws.specs.LoadLines.{SpellsExtent}
use Rattle.reading_laws.specs.Loads.{loads}
use Rattle.reading_laws.specs.Sequences.{Covers}
use Rattle.reading_laws.specs.Units.{Follow, Part, has, passed, passed_of, read as read_unit, spans_of, unit_of}
use Rattle.reading_laws.specs.Ranges.{last_base, ranges_at}

-- ---- load lines

-- a program that is loaded, a sample, another file over a part of it, and a sample
lines : List (List ℕ)
lines =
    lines_of (codes "1 PERF_RECORD_MMAP2 7/7: [0x5000(0x1000) @ 0x1000 08:02 5 0]: r-xp /bin/x\n0x5004/0x5108\n1 PERF_RECORD_MMAP2 7/7: [0x5100(0x100) @ 0 08:02 6 0]: r-xp /bin/y\n0x5004/0x5108\n")

loading : LoadMap
loading = record { name = codes "/bin/x"; segments = record { offset = 0x1000; size = 0x500; vaddr = 0x401000 } ∷ [] }

-- the addresses of a load line
extent_spelled : SpellsExtent (codes "[0x5000(0x1000)") 0x5000 0x1000
unfolding number_of prefixed_of address_of
extent_spelled = record { from = codes "0x5000"; count = codes "0x1000"; field_is = refl; one_opens = refl; one_closes = refl; start_is = refl; len_is = refl }

-- the samples' branches, as the definition has them and as the lines before them have
branches_defined : (slice_get (moved_lines loading [] lines) 1 ≡ Some ((Some 0x401004, Some 0x401108) ∷ []))
    × (slice_get (moved_lines loading [] lines) 3 ≡ Some ((Some 0x401004, None) ∷ []))
unfolding lines loading lines_of fields_of number_of prefixed_of address_of is_ip entry_of is_sample branches_of_line load_line_of extent_of offset_of behind_at name_in move_of address_of_offset
branches_defined = (refl, refl)

branches_before :
    (option_map (moved_line loading.segments (loads_of loading.name (take 1 lines))) (slice_get lines 1) ≡ Some ((Some 0x401004, Some 0x401108) ∷ []))
    × (option_map (moved_line loading.segments (loads_of loading.name (take 3 lines))) (slice_get lines 3) ≡ Some ((Some 0x401004, None) ∷ []))
    × (slice_get lines 4 ≡ None)
unfolding lines loading lines_of fields_of number_of prefixed_of address_of is_ip entry_of is_sample branches_of_line load_line_of extent_of offset_of behind_at name_in move_of address_of_offset
branches_before = (refl, refl, refl)

-- which lines load the addresses 0x5004, 0x5108 and 0x6000
loaded : (address : ℕ) → List (Bool)
loaded address = map (loads loading address) lines

lines_that_load : (loaded 0x5004 ≡ true ∷ false ∷ false ∷ false ∷ []) × (loaded 0x5108 ≡ true ∷ false ∷ true ∷ false ∷ []) × (loaded 0x6000 ≡ false ∷ false ∷ false ∷ false ∷ [])
unfolding loaded lines loading lines_of fields_of number_of prefixed_of address_of load_line_of extent_of offset_of behind_at name_in
lines_that_load = (refl, refl, refl)

-- ---- range lists

abbrev meant : Value → Result ℕ Kind
meant (addr address) = Ok address
meant _ = Err BadClass

abbrev at : ℕ → Entry → Placed
at place entry = record { at = place; entry = entry }

-- two bases, the second of which means nothing, and one range before, between and behind them; one is empty
entries : List Placed
entries =
    at 100 (from_base 0x10 0x20) ∷ at 103 (sets_base (addr 0x2000)) ∷ at 112 (from_base 0x10 0x20) ∷ at 115 (from_base 0x20 0x10)
    ∷ at 118 (sets_base (const 7)) ∷ at 127 (along (addr 0x3000) 5) ∷ at 137 (from_base 0x30 0x40) ∷ []

ranges_defined : ranges_from meant 0x1000 entries ≡ (0x1010, 0x1020) ∷ (0x2010, 0x2020) ∷ (0x3000, 0x3005) ∷ (0x2030, 0x2040) ∷ []
unfolding entries
ranges_defined = refl

ranges_by_index : flat_map (ranges_at meant 0x1000 entries) (range_with_len 0 7) ≡ (0x1010, 0x1020) ∷ (0x2010, 0x2020) ∷ (0x3000, 0x3005) ∷ (0x2030, 0x2040) ∷ []
unfolding entries
ranges_by_index = refl

bases : map (λ i. last_base meant 0x1000 (take i entries)) (range_with_len 0 7) ≡ 0x1000 ∷ 0x1000 ∷ 0x2000 ∷ 0x2000 ∷ 0x2000 ∷ 0x2000 ∷ 0x2000 ∷ []
unfolding entries
bases = refl

-- ---- the entries of a list

cursor : ℕ → List ℕ → Cursor
cursor place bytes = record { at = place; left = bytes }

-- a base of 8 bytes, a range from it, the end of the list, and a byte behind it
coded : List ℕ
coded = 5 ∷ 0 ∷ 0x20 ∷ 0 ∷ 0 ∷ 0 ∷ 0 ∷ 0 ∷ 0 ∷ 4 ∷ 0x10 ∷ 0x20 ∷ 0 ∷ 9 ∷ []

two_entries : List Placed
two_entries = at 100 (sets_base (addr 0x2000)) ∷ at 109 (from_base 0x10 0x20) ∷ []

read : entries_from false 100 coded ≡ record { entries = two_entries; broken = None }
unfolding coded two_entries coded_entry_at pair_entry_at field_at uleb_at
read = refl

they_stand : Stand false (cursor 100 coded) two_entries (cursor 112 (0 ∷ 9 ∷ []))
unfolding cursor coded two_entries coded_entry_at pair_entry_at field_at uleb_at
they_stand =
    (refl, cursor 109 (4 ∷ 0x10 ∷ 0x20 ∷ 0 ∷ 9 ∷ []), refl, refl, (refl, cursor 112 (0 ∷ 9 ∷ []), refl, refl, refl))

they_stop : Stops false (cursor 112 (0 ∷ 9 ∷ [])) None
unfolding cursor coded_entry_at pair_entry_at field_at uleb_at
they_stop = refl

-- no entry has the code 9
it_breaks : Stops false (cursor 113 (9 ∷ [])) (Some (in_binary 113 BadRangeEntry))
unfolding cursor coded_entry_at pair_entry_at field_at uleb_at
it_breaks = (BadRangeEntry, refl, refl)

-- ---- units

-- a unit of DWARF 3, one of length 0, and one of DWARF 4 without entries, in a section at place 166
info : List ℕ
info = 2 ∷ 0 ∷ 0 ∷ 0 ∷ 3 ∷ 0 ∷ 0 ∷ 0 ∷ 0 ∷ 0 ∷ 7 ∷ 0 ∷ 0 ∷ 0 ∷ 4 ∷ 0 ∷ 0 ∷ 0 ∷ 0 ∷ 0 ∷ 8 ∷ []

told : Units
told = record {
  units = record { at = 176; end = 187; version = 4; wide = false; first = 0; count = 0 } ∷ [];
  entries = [];
  skipped = (166, 172) ∷ (172, 176) ∷ [];
}

units_told : units (Some (cursor 120 (0 ∷ []))) (cursor 166 info) ≡ Ok (told, cursor 187 [])
unfolding cursor info told abbrevs_at address_size unit_entries field field_at find_code header header_4 next_abbrev next_unit sized table uleb uleb_at unit_body unit_length units
units_told = refl

parts : List Part
parts = passed (166, 172) ∷ passed (172, 176) ∷ read_unit (record { at = 176; end = 187; version = 4; wide = false; first = 0; count = 0 }) ∷ []

they_fill : Follow 166 parts 187 × (filter_map unit_of parts ≡ told.units) × (filter_map passed_of parts ≡ told.skipped)
unfolding parts told
they_fill = ((refl, omega arith, (refl, omega arith, (refl, omega arith, refl))), refl, refl)

units_of_bytes : map (λ place. count_by (has place) (spans_of told)) (165 ∷ 166 ∷ 171 ∷ 172 ∷ 175 ∷ 176 ∷ 186 ∷ 187 ∷ [])
    ≡ 0 ∷ 1 ∷ 1 ∷ 1 ∷ 1 ∷ 1 ∷ 1 ∷ 0 ∷ []
unfolding told
units_of_bytes = refl

-- ---- headers

-- bytes at a place that spell a number, with others behind them
field_of : (size at : ℕ) (bytes rest : List ℕ) (n : ℕ) → SpellsField size bytes n
    → Reads (SpellsField size) (cursor at (bytes ++ rest)) (cursor (at + length bytes) rest) n
unfolding cursor
field_of size at bytes rest n spelled = record { bytes = bytes; spelled = spelled; passed = record { left = refl; at = refl } }

-- a header of version 5 and of type 1, whose abbreviations begin at offset 2 of a section of 4 bytes at place 120
spelled_5 :
    SpellsHeader false (Some (cursor 120 (9 ∷ 9 ∷ 9 ∷ 9 ∷ []))) (cursor 4 (5 ∷ 0 ∷ 1 ∷ 8 ∷ 2 ∷ 0 ∷ 0 ∷ 0 ∷ 7 ∷ [])) (cursor 12 (7 ∷ []))
    (Some (record { version = 5; abbrevs = cursor 122 (9 ∷ 9 ∷ []) }))
unfolding cursor
spelled_5 =
    version_5 _ _ _ _ _ _ 1 (field_of 2 4 (5 ∷ 0 ∷ []) (1 ∷ 8 ∷ 2 ∷ 0 ∷ 0 ∷ 0 ∷ 7 ∷ []) 5 (record { sized = refl; value = refl }))
    (field_of 1 6 (1 ∷ []) (8 ∷ 2 ∷ 0 ∷ 0 ∷ 0 ∷ 7 ∷ []) 1 (record { sized = refl; value = refl })) (inl refl)
    (field_of 1 7 (8 ∷ []) (2 ∷ 0 ∷ 0 ∷ 0 ∷ 7 ∷ []) 8 (record { sized = refl; value = refl }))
    (record {
      offset = 2;
      field = field_of 4 8 (2 ∷ 0 ∷ 0 ∷ 0 ∷ []) (7 ∷ []) 2 (record { sized = refl; value = refl });
      abbrevs = cursor 120 (9 ∷ 9 ∷ 9 ∷ 9 ∷ []);
      there = refl;
      inside = omega arith;
      leads = refl;
    })

read_5 :
    header false (Some (cursor 120 (9 ∷ 9 ∷ 9 ∷ 9 ∷ []))) (cursor 4 (5 ∷ 0 ∷ 1 ∷ 8 ∷ 2 ∷ 0 ∷ 0 ∷ 0 ∷ 7 ∷ []))
    ≡ Ok (Some (record { version = 5; abbrevs = cursor 122 (9 ∷ 9 ∷ []) }), cursor 12 (7 ∷ []))
unfolding cursor abbrevs_at address_size field field_at header header_5 header_5_behind
read_5 = refl

-- ---- rows

-- a program of version 4: an address, a row, 16 bytes of code, and the end of the sequence
abbrev program : List ℕ
program =
    0x2b ∷ 0 ∷ 0 ∷ 0 ∷ 4 ∷ 0 ∷ 0x14 ∷ 0 ∷ 0 ∷ 0 ∷ 1 ∷ 1 ∷ 1 ∷ 0xfb ∷ 0x0e ∷ 0x0d ∷ 0 ∷ 1 ∷ 1 ∷ 1 ∷ 1 ∷ 0 ∷ 0 ∷ 0 ∷ 1 ∷ 0 ∷ 0 ∷ 1 ∷ 0 ∷ 0 ∷
    0 ∷ 9 ∷ 2 ∷ 0 ∷ 0x10 ∷ 0x40 ∷ 0 ∷ 0 ∷ 0 ∷ 0 ∷ 0 ∷ 1 ∷ 2 ∷ 0x10 ∷ 0 ∷ 1 ∷ 1 ∷ []

abbrev two_rows : List Row
two_rows =
    record { address = 0x401000; line = 1; disc = 0; ends = false } ∷ record { address = 0x401010; line = 1; disc = 0; ends = true } ∷ []

rows_alone : (rows_at 7 (record { at = 229; left = program }) ≡ Ok two_rows) × (rows_at 0 (record { at = 229; left = program }) ≡ Ok two_rows)
unfolding field_at run_at uleb_at sleb_at operation_at code_at extended_at ulebs_at unit_at version_at sizes_at opcodes_at operations_at lengths_at header_at program_at rows_at rows_in
rows_alone = (refl, refl)

-- two units whose roots name the program at offset 0 of `.debug_line`, and between them one whose root names none
abbrev root : ℕ → List Found → UnitEntry
root unit found = record { at = 11; depth = 0; tag = 0x11; unit = unit; found = found }

abbrev unit_read : ℕ → UnitRead
unit_read first = record { at = 0; end = 20; version = 4; wide = false; first = first; count = 1 }

abbrev three : Units
three = record {
  units = unit_read 0 ∷ unit_read 1 ∷ unit_read 2 ∷ [];
  entries = root 0 (record { name = 0x10; at = 12; value = offset 0 } ∷ []) ∷ root 1 [] ∷ root 2 (record { name = 0x10; at = 12; value = offset 0 } ∷ []) ∷ [];
  skipped = [];
}

abbrev lines_section : Option Cursor
lines_section = Some (record { at = 229; left = program })

rows_defined : rows_of_units lines_section three ≡ Ok (Some two_rows ∷ None ∷ Some two_rows ∷ [])
unfolding root_of rows_of_units rows_of_unit field_at run_at uleb_at sleb_at operation_at code_at extended_at ulebs_at unit_at version_at sizes_at opcodes_at operations_at lengths_at header_at program_at rows_at rows_in
rows_defined = refl

rows_of_each : (rows_of_unit lines_section three 0 0 ≡ Ok (Some two_rows)) × (rows_of_unit lines_section three 1 2 ≡ Ok None)
    × (rows_of_unit lines_section three 2 (row_count (Some two_rows ∷ None ∷ [])) ≡ Ok (Some two_rows))
unfolding root_of rows_of_unit field_at run_at uleb_at sleb_at operation_at code_at extended_at ulebs_at unit_at version_at sizes_at opcodes_at operations_at lengths_at header_at program_at rows_at rows_in
rows_of_each = (refl, refl, refl)

-- ---- sequences

abbrev row_at_line : ℕ → ℕ → Bool → Row
row_at_line address line ends = record { address = address; line = line; disc = 0; ends = ends }

-- two sequences, the second without rows, and a row behind the last end
abbrev five_rows : List Row
five_rows = row_at_line 16 1 false ∷ row_at_line 20 2 false ∷ row_at_line 24 2 true ∷ row_at_line 8 3 true ∷ row_at_line 40 4 false ∷ []

abbrev first_sequence : Sequence
first_sequence = record { rows = row_at_line 16 1 false ∷ row_at_line 20 2 false ∷ []; end = row_at_line 24 2 true }

sequences_made : sequences_of five_rows ≡ first_sequence ∷ record { rows = []; end = row_at_line 8 3 true } ∷ []
sequences_made = refl

-- its last row covers the addresses up to its end
row_found : row_in 23 first_sequence ≡ Some (row_at_line 20 2 false)
row_found = refl

row_covers : Covers first_sequence (row_at_line 20 2 false) 23
row_covers = record { place = 1; there = refl; next = row_at_line 24 2 true; behind = refl; from = omega arith; to = omega arith }
