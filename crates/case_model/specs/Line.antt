-- The section `.debug_line`: one line program of version 4, with a sequence for each function.
use Rattle.std.specs.Prelude.{ℕ, ℤ, pos, neg_ℤ, ◌-ℤ◌, ◌+◌, ◌*◌, List, [], ◌∷◌, ◌++◌, length}
use Rattle.std.specs.Int.{w8, cast_unsigned}
use Rattle.case_model.specs.Bytes.{u16_bytes, u64_bytes, uleb, small_leb, counted, for_each_function}
use Rattle.case_model.specs.Dwarf.{lns_copy, lns_advance_pc, lns_advance_line, lne_end_sequence, lne_set_address, lne_set_discriminator}
use Rattle.case_model.specs.Functions.{address}

-- DWARF 4, section 6.2.4: what a special opcode adds to the line at least, how many such steps there are, and the
-- number of the first special opcode.
abbrev pub line_base : ℤ
line_base = neg_ℤ (pos 5)

abbrev pub line_range : ℕ
line_range = 14

abbrev pub opcode_base : ℕ
opcode_base = 13

-- How many operands each standard opcode has.
abbrev pub standard_opcode_lengths : List ℕ
standard_opcode_lengths = 0 ∷ 1 ∷ 1 ∷ 1 ∷ 1 ∷ 0 ∷ 0 ∷ 0 ∷ 1 ∷ 0 ∷ 0 ∷ 1 ∷ []

-- Behind the header's length: instructions of 1 byte, one operation each, each row a statement; then what special
-- opcodes go by; no folders and no files.
unfoldable pub header_fields : List ℕ
header_fields =
    1 ∷ 1 ∷ 1 ∷ cast_unsigned w8 line_base ∷ line_range ∷ opcode_base ∷ [] ++ standard_opcode_lengths ++ 0 ∷ 0 ∷ []

-- DWARF 4, section 6.2.5.1: the special opcode that adds this to the line and that to the address.
abbrev pub special : ℤ → ℕ → ℕ
special lines bytes = cast_unsigned w8 (lines -ℤ line_base) + line_range * bytes + opcode_base

-- DWARF 4, section 6.2.5.3: an extended opcode, behind a zero and the length of what follows.
unfoldable pub extended : ℕ → List ℕ → List ℕ
extended opcode operands = 0 ∷ [] ++ uleb (length (opcode ∷ operands)) ++ opcode ∷ operands

-- The sequence of function k: lines 10, 11, 6, 12 with discriminator 2, and 13.
unfoldable pub sequence : ℕ → List ℕ
sequence k =
    extended lne_set_address (u64_bytes (address k))
    ++ lns_advance_line ∷ small_leb 9 ++ lns_copy ∷ special (pos 1) 8 ∷ special (neg_ℤ (pos 5)) 8 ∷ []
    ++ extended lne_set_discriminator (uleb 2)
    ++ special (pos 6) 16 ∷ special (pos 1) 16 ∷ lns_advance_pc ∷ uleb 16
    ++ extended lne_end_sequence []

-- The line program of n functions, behind its length.
unfoldable pub debug_line : ℕ → List ℕ
debug_line n = counted (u16_bytes 4 ++ counted header_fields ++ for_each_function sequence n)
