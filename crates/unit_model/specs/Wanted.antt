-- The attributes that are wanted, and the classes that the value of each can have (DWARF 5, section 7.5.4, table 7.5).
use Rattle.std.specs.Prelude.{ℕ, Bool, true, false, ◌==◌, if◌then◌else◌, List, [], ◌∷◌}
use Rattle.std.specs.List.{list_any}
use Rattle.unit_model.specs.Constants.{DW_AT_GNU_discriminator, DW_AT_MIPS_linkage_name, DW_AT_abstract_origin, DW_AT_addr_base, DW_AT_call_line, DW_AT_decl_line, DW_AT_high_pc, DW_AT_linkage_name, DW_AT_low_pc, DW_AT_name, DW_AT_ranges, DW_AT_rnglists_base, DW_AT_specification, DW_AT_stmt_list, DW_AT_str_offsets_base, DW_TAG_compile_unit, DW_TAG_inlined_subroutine, DW_TAG_partial_unit, DW_TAG_subprogram}
use Rattle.value_model.specs.Value.{Value, addr, const, text, str_at, line_str_at, str_index, addr_index, ref_info, ref, sig, offset, range_index}

-- What an attribute is wanted for.
pub data Use : Type 0 where
  -- A text.
  as_text : Use
  -- A place in a section.
  as_place : Use
  -- An address.
  as_address : Use
  -- The end of a range, also as its size.
  as_end : Use
  -- Another entry.
  as_entry : Use
  -- A number.
  as_number : Use
  -- A range list.
  as_ranges : Use
  -- Not wanted.
  unused : Use

-- A code is one of these.
abbrev pub is_one_of : List ℕ → ℕ → Bool
is_one_of codes code = list_any (λ c. c == code) codes

-- What the attribute of a name is wanted for.
abbrev pub use_of : ℕ → Use
use_of name =
    if is_one_of (DW_AT_name ∷ DW_AT_linkage_name ∷ DW_AT_MIPS_linkage_name ∷ []) name then as_text
    else (if is_one_of (DW_AT_stmt_list ∷ DW_AT_str_offsets_base ∷ DW_AT_addr_base ∷ DW_AT_rnglists_base ∷ []) name
    then as_place
    else (if name == DW_AT_low_pc then as_address
    else (if name == DW_AT_high_pc then as_end
    else (if is_one_of (DW_AT_abstract_origin ∷ DW_AT_specification ∷ []) name then as_entry
    else (if is_one_of (DW_AT_decl_line ∷ DW_AT_call_line ∷ DW_AT_GNU_discriminator ∷ []) name then as_number
    else (if name == DW_AT_ranges then as_ranges
    else unused))))))

-- A value is of a class that an attribute can have, by what it is wanted for.
-- Why: A wanted attribute of a bad class is `BadClass` wherever it stands, though of two with one name the first
-- counts.
abbrev pub accepts : Use → Value → Bool
accepts as_text (text run) = true
accepts as_text (str_at n) = true
accepts as_text (line_str_at n) = true
accepts as_text (str_index n) = true
accepts as_place (offset n) = true
accepts as_place (const n) = true
accepts as_address (addr n) = true
accepts as_address (addr_index n) = true
accepts as_end (addr n) = true
accepts as_end (addr_index n) = true
accepts as_end (const n) = true
accepts as_entry (ref n) = true
accepts as_entry (ref_info n) = true
accepts as_entry (sig n) = true
accepts as_number (const n) = true
accepts as_ranges (offset n) = true
accepts as_ranges (const n) = true
accepts as_ranges (range_index n) = true
accepts unused value = true
accepts purpose value = false

-- The tags whose attributes are wanted: those of roots, functions and inlined calls.
abbrev pub has_wanted : ℕ → Bool
has_wanted tag =
    is_one_of (DW_TAG_compile_unit ∷ DW_TAG_partial_unit ∷ DW_TAG_subprogram ∷ DW_TAG_inlined_subroutine ∷ []) tag

-- What an attribute of an entry with a tag is wanted for.
unfoldable pub wanted : ℕ → ℕ → Use
wanted tag name = if has_wanted tag then use_of name else unused
