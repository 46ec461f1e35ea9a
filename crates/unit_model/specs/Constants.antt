-- The tags and attributes that are asked for, each by the name and the number that DWARF 5 gives it: sections 7.5.3,
-- table 7.3, and 7.5.4, table 7.5. The attributes from 0x2000 on are of GNU and MIPS.
use Rattle.std.specs.Prelude.{ℕ}

-- The roots of units.
abbrev pub DW_TAG_compile_unit : ℕ
DW_TAG_compile_unit = 0x11

abbrev pub DW_TAG_partial_unit : ℕ
DW_TAG_partial_unit = 0x3c

-- A function, and a call that is inlined.
abbrev pub DW_TAG_subprogram : ℕ
DW_TAG_subprogram = 0x2e

abbrev pub DW_TAG_inlined_subroutine : ℕ
DW_TAG_inlined_subroutine = 0x1d

-- The name as the source has it, as the linker has it, and the latter before DWARF 4.
abbrev pub DW_AT_name : ℕ
DW_AT_name = 0x03

abbrev pub DW_AT_linkage_name : ℕ
DW_AT_linkage_name = 0x6e

abbrev pub DW_AT_MIPS_linkage_name : ℕ
DW_AT_MIPS_linkage_name = 0x2007

-- Where the unit's line program stands.
abbrev pub DW_AT_stmt_list : ℕ
DW_AT_stmt_list = 0x10

-- What the indexes of a unit count from.
abbrev pub DW_AT_str_offsets_base : ℕ
DW_AT_str_offsets_base = 0x72

abbrev pub DW_AT_addr_base : ℕ
DW_AT_addr_base = 0x73

abbrev pub DW_AT_rnglists_base : ℕ
DW_AT_rnglists_base = 0x74

-- The first address, the end or how far it is behind the first address, and a list of ranges.
abbrev pub DW_AT_low_pc : ℕ
DW_AT_low_pc = 0x11

abbrev pub DW_AT_high_pc : ℕ
DW_AT_high_pc = 0x12

abbrev pub DW_AT_ranges : ℕ
DW_AT_ranges = 0x55

-- The function that an entry is a copy of or was inlined from, and the declaration of what it defines.
abbrev pub DW_AT_abstract_origin : ℕ
DW_AT_abstract_origin = 0x31

abbrev pub DW_AT_specification : ℕ
DW_AT_specification = 0x47

-- The line of the declaration, and the line and the discriminator of an inlined call.
abbrev pub DW_AT_decl_line : ℕ
DW_AT_decl_line = 0x3b

abbrev pub DW_AT_call_line : ℕ
DW_AT_call_line = 0x59

abbrev pub DW_AT_GNU_discriminator : ℕ
DW_AT_GNU_discriminator = 0x2136
