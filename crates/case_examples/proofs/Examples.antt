-- The generated case of one function, from its bytes to what is written of it.
use Rattle.std.proofs.Common.{◌++◌, ◌≡◌, ℕ, Bool, List, [], ◌∷◌, Option, None, Some, refl, true, false}
use Rattle.std.specs.Prelude.{codes, take, if◌then◌else◌}
use Rattle.std.specs.Str.{bytes_eq}
use Rattle.refusal.specs.declared.kind.Kind.TheVariants.{BadHeader, BadLine}
use Rattle.io_edge.specs.Inputs.{Store}
use Rattle.output_model.specs.Output.{loading_of, output_text, sampled_by}
use Rattle.command_model.specs.Answer.{Answer, answer_of, no_such_file, refused, usage, writes}
use Rattle.command_model.specs.Command.{address_of as address_asked, command_of}
use Rattle.command_model.specs.Files.{IsOutput}
use Rattle.command_model.specs.Options.{map_name, options_of}
use Rattle.command_model.specs.Counts.{counts_text}
use Rattle.std.specs.Fmt.{digits}
use Rattle.std.specs.List.{range_with_len}
use Rattle.std.specs.Option.{option_map}
use Rattle.load_model.specs.Segments.{address_of_offset}
use Rattle.line_model.specs.declared.row.Row.{Row}
use Rattle.unit_model.specs.Abbrev.{find_code}
use Rattle.unit_model.specs.Table.{abbrev_behind, abbrev_of, attrs, children_byte, implicit, next_abbrev, next_attr, table}
use Rattle.binary_model.specs.Addresses.{entered_at, factor_of_address, function_of_address}
use Rattle.binary_model.specs.Binary.{first_bad_of_binary, members_read, rows_read, units_read, members_in, tables_in}
use Rattle.binary_model.specs.LinePrograms.{rows_of_unit, rows_of_units}
use Rattle.binary_model.specs.Places.{place_among, place_of_address, numbered_from, names_of, row_in}
use Rattle.key_types.specs.Numbers.{name_of}
use Rattle.binary_model.specs.Sections.{section_at}
use Rattle.byte_view.specs.Reading.{field_at, run_at, sleb_at, text_at, uleb_at}
use Rattle.case_model.specs.Abbrev.{abstract_kind, debug_abbrev, function_kind, inlined_kind, unit_kind}
use Rattle.case_model.specs.Bytes.{for_each_function, u16_bytes, u32_bytes, u64_bytes}
use Rattle.case_model.specs.Elf.{binary, count_fields, e_ident, empty_header, file_header, program_fields, program_header, section_header, section_headers}
use Rattle.case_model.specs.Functions.{name}
use Rattle.case_model.specs.Info.{debug_info, front, function_entry}
use Rattle.case_model.specs.Line.{debug_line, extended, header_fields, sequence}
use Rattle.case_model.specs.Samples.{branch, branch_text, often_sample, once_sample, samples_of}
use Rattle.chain_model.specs.Chains.{function_at}
use Rattle.chain_model.specs.Places.{entry_name, factor_at}
use Rattle.elf_model.specs.Fields.{number_at}
use Rattle.elf_model.specs.Items.{items, lookup_item}
use Rattle.elf_model.specs.Sections.{section}
use Rattle.elf_model.specs.Segments.{code_loads, is_live}
use Rattle.line_model.specs.Fields.{header_at, lengths_at, opcodes_at, operations_at, program_at, sizes_at, unit_at, version_at}
use Rattle.line_model.specs.Program.{rows_at, rows_in}
use Rattle.line_model.specs.Reading.{code_at, extended_at, operation_at, ulebs_at}
use Rattle.tree_model.specs.Pieces.{pieces, spelled_ranges}
use Rattle.key_types.specs.Discriminators.{split}
use Rattle.placed_view.specs.Reader.{field, sleb, uleb}
use Rattle.profile_model.specs.Profile.{lines_of as profile_lines}
use Rattle.profile_model.specs.Text.{text_of_lines, profile_text}
use Rattle.range_model.specs.Entries.{coded_entry_at, pair_entry_at}
use Rattle.range_model.specs.Lists.{bad_range, ranges_of}
use Rattle.range_model.specs.Texts.{address_of as meant_address, text_of}
use Rattle.report_model.specs.Report.{report_text, Sampled}
use Rattle.line_model.specs.Rows.{Sequence}
use Rattle.sample_model.specs.Judging.{cause_of_line, items_of_lines, judged_lines_of, first_bad_of_text}
use Rattle.sample_model.specs.Line.{address_of as entry_address, branches_of_line, entry_of as spelled_entry, is_ip, is_sample, is_well_formed}
use Rattle.sample_model.specs.Loads.{behind_at, extent_of, load_line_of, name_in, offset_of}
use Rattle.sample_model.specs.Moves.{move_of, moved_ranges}
use Rattle.sample_model.specs.Samples.{ranges_between}
use Rattle.output_model.specs.Program.{Program, program_of}
use Rattle.output_model.specs.Sampled.{classes_of, profile_among}
use Rattle.text_model.specs.Fields.{fields_of}
use Rattle.text_model.specs.Lines.{ended_lines_of, lines_of as text_lines}
use Rattle.text_model.specs.Numbers.{hex_text, number_of, prefixed_of}
use Rattle.tree_model.specs.Members.{Told}
use Rattle.tree_model.specs.Tree.{members, next_call, next_entry as next_tree_entry, next_function, next_unit as next_tree_unit}
use Rattle.tree_model.specs.Bases.{base_address, bases_of_unit, root_of}
use Rattle.unit_model.specs.Entries.{entries, entry_of as unit_entry_of, entry_of_code, next_entry as next_unit_entry}
use Rattle.unit_model.specs.Header.{abbrevs_at, address_size, header, header_4, header_5, header_5_behind, sized, unit_length}
use Rattle.unit_model.specs.Units.{next_unit as next_unit_read, unit_body, units}
use Rattle.unit_model.specs.Values.{next_value, value, values}
use Rattle.unit_model.specs.Wanted.{wanted}
use Rattle.value_model.specs.Forms.{operand_of}
use Rattle.value_model.specs.Reading.{value_at}
use Rattle.tree_model.specs.Origin.{origin}
use Rattle.tree_model.specs.Way.{next_on_way, way}

-- A function, and a call of `g` inlined into it.
functions : List Told
functions =
    record { depth = 0; unit = 0; name = Some (codes "f0000"); start = 10; line = 0; disc = 0; pieces = (0x401000, 0x401040) ∷ [] }
    ∷ record { depth = 1; unit = 0; name = Some (codes "g"); start = 5; line = 12; disc = 1; pieces = (0x401010, 0x401020) ∷ [] }
    ∷ []

row : ℕ → ℕ → ℕ → Bool → Row
row address line disc ends = record { address = address; line = line; disc = disc; ends = ends }

-- One unit, with one sequence.
tables : List (Option (List Sequence))
tables =
    Some (
    record {
      rows = row 0x401000 10 0 false
          ∷ row 0x401008 11 0 false
          ∷ row 0x401010 6 0 false
          ∷ row 0x401020 12 2 false
          ∷ row 0x401030 13 0 false
          ∷ [];
      end = row 0x401040 13 0 true;
    }
    ∷ []
    )
    ∷ []

-- What two samples tell.
sampled : Sampled
sampled = record {
  branches = (0x401038, 0x401036) ∷ (0x40100c, 0x401020) ∷ (0x401034, 0x401000) ∷ (0x401038, 0x401036) ∷ (0x401004, 0x401010) ∷ [];
  ranges = (0x401020, 0x401038) ∷ (0x401000, 0x40100c) ∷ (0x401010, 0x401038) ∷ [];
  units_read = 1;
  units_passed = 0;
}

-- What one sample tells whose addresses are moved, but for one that is foreign.
loaded : List (List ℕ)
loaded =
    codes "x 7 PERF_RECORD_MMAP2 7/7: [0x7f0000000000(0x1000) @ 0 08:02 5 0]: r-xp /bin/x"
    ∷ codes "0x7f0000000004/0x9 0x9/0x7f0000000000"
    ∷ []

moved : Sampled
moved = record {
  branches = (0x401004, 0) ∷ (0, 0x401000) ∷ [];
  ranges = (0x401000, 0x401004) ∷ [];
  units_read = 1;
  units_passed = 0;
}

-- Both files are good, and this is what they say.
the_case : (first_bad_of_binary (binary 1) ≡ None)
    × (members_in (binary 1) ≡ functions)
    × (tables_in (binary 1) ≡ tables)
    × (first_bad_of_text 2 (branch_text 1) ≡ None)
    × (sampled_by None (binary 1) (text_lines (branch_text 1)) ≡ sampled)
    × (sampled_by (loading_of (Some (codes "/bin/x")) (binary 1)) (binary 1) loaded ≡ moved)
unfolding functions row tables sampled loaded moved digits address_of_offset abstract_kind binary count_fields debug_abbrev debug_info debug_line e_ident empty_header extended file_header for_each_function front function_entry function_kind header_fields inlined_kind name program_fields program_header section_header section_headers sequence u16_bytes u32_bytes u64_bytes unit_kind abbrev_behind abbrev_of abbrevs_at meant_address address_size attrs bad_range base_address bases_of_unit children_byte code_at code_loads coded_entry_at entries unit_entry_of entry_of_code extended_at field field_at find_code first_bad_of_binary header header_4 header_5 header_5_behind header_at implicit is_live items lengths_at lookup_item members members_read next_abbrev next_attr next_call next_unit_entry next_tree_entry next_function next_on_way next_unit_read next_tree_unit next_value number_at opcodes_at operand_of operation_at operations_at origin pair_entry_at pieces program_at ranges_of root_of rows_at rows_in rows_of_unit rows_of_units rows_read run_at section section_at sized sizes_at sleb sleb_at spelled_ranges table text_at text_of uleb uleb_at ulebs_at unit_at unit_body unit_length units units_read value value_at values version_at wanted way branch branch_text often_sample once_sample samples_of entry_address behind_at branches_of_line cause_of_line ended_lines_of spelled_entry extent_of fields_of hex_text is_ip is_sample is_well_formed items_of_lines judged_lines_of text_lines load_line_of move_of moved_ranges name_in number_of offset_of prefixed_of ranges_between
the_case = (refl, refl, refl, refl, refl, refl)

-- The two files, and the first of them cut off.
files : Store
files name =
    if bytes_eq name (codes "b") then Some (binary 1)
    else (if bytes_eq name (codes "p") then Some (branch_text 1)
    else (if bytes_eq name (codes "cut") then Some (take 400 (binary 1)) else None))

-- The answer to a command's name, its options, and two words behind them.
answer : List ℕ → List (List ℕ) → List ℕ → List ℕ → Answer
answer name options first second = answer_of files (name ∷ (options ++ first ∷ second ∷ []))

-- The answer is that this may be written.
Writes : Answer → List ℕ → Type 0
Writes (writes command contents) text = IsOutput command contents text
Writes other text = ⊥

-- From words to what is written, or why nothing is.
answers : Writes (answer (codes "where") [] (codes "b") (codes "401010")) (codes "f0000 2.1 g 1\n")
    × Writes (answer (codes "where") [] (codes "b") (codes "0x401020")) (codes "f0000 2.2\n")
    × Writes (answer (codes "where") (codes "--base" ∷ []) (codes "b") (codes "401014")) (codes "f0000 2 g 1\n")
    × Writes (answer (codes "where") [] (codes "b") (codes "401040")) (codes "outside\n")
    × (answer (codes "where") [] (codes "b") (codes "-1") ≡ usage)
    × (answer (codes "profile") [] (codes "cut") (codes "p") ≡ refused (record { file = 1; at = 40; kind = BadHeader }))
    × (answer (codes "profile") [] (codes "b") (codes "b") ≡ refused (record { file = 2; at = 1; kind = BadLine }))
    × (answer (codes "profile") [] (codes "b") (codes "q") ≡ no_such_file 2)
    × Writes (answer_of files (codes "counts" ∷ codes "p" ∷ []))
    (codes "0x401004 0x401010 1\n0x40100c 0x401020 1\n0x401034 0x401000 1\n0x401038 0x401036 2\n# branches 5\n")
    × Writes (answer (codes "profile") [] (codes "b") (codes "p")) (output_text (program_of (binary 1) false) sampled)
unfolding Writes answer files sampled digits address_asked command_of counts_text map_name options_of place_of_address place_among abstract_kind binary count_fields debug_abbrev debug_info debug_line e_ident empty_header extended file_header for_each_function front function_entry function_kind header_fields inlined_kind name program_fields program_header section_header section_headers sequence u16_bytes u32_bytes u64_bytes unit_kind abbrev_behind abbrev_of abbrevs_at meant_address address_size attrs bad_range base_address bases_of_unit children_byte code_at code_loads coded_entry_at entries unit_entry_of entry_of_code extended_at field field_at find_code first_bad_of_binary header header_4 header_5 header_5_behind header_at implicit is_live items lengths_at lookup_item members members_read next_abbrev next_attr next_call next_unit_entry next_tree_entry next_function next_on_way next_unit_read next_tree_unit next_value number_at opcodes_at operand_of operation_at operations_at origin pair_entry_at pieces program_at ranges_of root_of rows_at rows_in rows_of_unit rows_of_units rows_read run_at section section_at sized sizes_at sleb sleb_at spelled_ranges table text_at text_of uleb uleb_at ulebs_at unit_at unit_body unit_length units units_read value value_at values version_at wanted way branch branch_text often_sample once_sample samples_of entry_address behind_at branches_of_line cause_of_line ended_lines_of spelled_entry extent_of fields_of hex_text is_ip is_sample is_well_formed items_of_lines judged_lines_of text_lines load_line_of move_of moved_ranges name_in number_of offset_of prefixed_of ranges_between profile_lines report_text split text_of_lines
answers = (refl, refl, refl, refl, refl, refl, refl, refl, refl, refl)

-- That program is what functions and rows tell of each address.
program : Program
program = record {
  place = λ address. place_among tables false functions address;
  function = λ address. function_at (numbered_from 0 functions) address;
  entered = λ address. option_map (name_of (names_of functions)) (entry_name (numbered_from 0 functions) address);
  factor = λ address. factor_at (row_in tables) false (numbered_from 0 functions) address;
}

the_program : program_of (binary 1) false ≡ program
unfolding row functions tables program entered_at factor_of_address function_of_address place_of_address abstract_kind binary count_fields debug_abbrev debug_info debug_line e_ident empty_header extended file_header for_each_function front function_entry function_kind header_fields inlined_kind name program_fields program_header section_header section_headers sequence u16_bytes u32_bytes u64_bytes unit_kind abbrev_behind abbrev_of abbrevs_at meant_address address_size attrs bad_range base_address bases_of_unit children_byte code_at code_loads coded_entry_at entries unit_entry_of entry_of_code extended_at field field_at find_code first_bad_of_binary header header_4 header_5 header_5_behind header_at implicit is_live items lengths_at lookup_item members members_read next_abbrev next_attr next_call next_unit_entry next_tree_entry next_function next_on_way next_unit_read next_tree_unit next_value number_at opcodes_at operand_of operation_at operations_at origin pair_entry_at pieces program_at ranges_of root_of rows_at rows_in rows_of_unit rows_of_units rows_read run_at section section_at sized sizes_at sleb sleb_at spelled_ranges table text_at text_of uleb uleb_at ulebs_at unit_at unit_body unit_length units units_read value value_at values version_at wanted way
the_program = refl

-- And this is written of it, as far as the addresses of its function tell it.
profile : profile_text (profile_among (range_with_len 0x401000 0x40) program sampled)
    ≡ codes "f0000:7:1\n 0: 1\n 1: 1\n 2.2: 2\n 3: 2 f0000:1\n 2.1: g:1\n  1: 1\n"
unfolding digits row functions tables program sampled place_among profile_lines report_text split text_of_lines
profile = refl

report : report_text (classes_of program) sampled
    ≡ codes "# branches 5\n# entries 1\n# inside 4\n# ranges ran 3\n# ranges reversed 0\n# ranges outside 0\n# ranges crossing 0\n# units read 1 passed 0\n"
unfolding digits row functions tables program sampled place_among profile_lines report_text split text_of_lines
report = refl
