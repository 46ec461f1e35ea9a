-- Names of DWARF 5 for the numbers that stand in a generated binary.
use Rattle.std.specs.Prelude.{ℕ}

-- Section 7.5.3, table 7.3: tags.
abbrev pub tag_compile_unit : ℕ
tag_compile_unit = 0x11

abbrev pub tag_inlined_subroutine : ℕ
tag_inlined_subroutine = 0x1d

abbrev pub tag_subprogram : ℕ
tag_subprogram = 0x2e

-- Section 7.5.3, table 7.4: whether entries stand below.
abbrev pub children_no : ℕ
children_no = 0

abbrev pub children_yes : ℕ
children_yes = 1

-- Section 7.5.4, table 7.5: attributes.
abbrev pub at_name : ℕ
at_name = 0x03

abbrev pub at_stmt_list : ℕ
at_stmt_list = 0x10

abbrev pub at_low_pc : ℕ
at_low_pc = 0x11

abbrev pub at_high_pc : ℕ
at_high_pc = 0x12

abbrev pub at_abstract_origin : ℕ
at_abstract_origin = 0x31

abbrev pub at_decl_line : ℕ
at_decl_line = 0x3b

abbrev pub at_call_line : ℕ
at_call_line = 0x59

-- An attribute of GNU's, beside the standard's.
abbrev pub at_gnu_discriminator : ℕ
at_gnu_discriminator = 0x2136

-- Section 7.5.6, table 7.6: forms.
abbrev pub form_addr : ℕ
form_addr = 0x01

abbrev pub form_data2 : ℕ
form_data2 = 0x05

abbrev pub form_data4 : ℕ
form_data4 = 0x06

abbrev pub form_string : ℕ
form_string = 0x08

abbrev pub form_data1 : ℕ
form_data1 = 0x0b

abbrev pub form_ref4 : ℕ
form_ref4 = 0x13

abbrev pub form_sec_offset : ℕ
form_sec_offset = 0x17

-- Section 7.22, tables 7.25 and 7.26: standard and extended opcodes of line programs.
abbrev pub lns_copy : ℕ
lns_copy = 1

abbrev pub lns_advance_pc : ℕ
lns_advance_pc = 2

abbrev pub lns_advance_line : ℕ
lns_advance_line = 3

abbrev pub lne_end_sequence : ℕ
lne_end_sequence = 1

abbrev pub lne_set_address : ℕ
lne_set_address = 2

abbrev pub lne_set_discriminator : ℕ
lne_set_discriminator = 4
