-- The values that forms have, in the standard's classes (DWARF 5, section 7.5.5).
use Rattle.std.specs.Prelude.{ℕ, ◌-◌, ◌+◌, ◌^◌, ℤ, pos, negsuc, Bool, List}
use Rattle.byte_view.specs.declared.fault.ViewFault.{ViewFault}

-- A value, by its class. A class that the standard splits by where the value leads has a variant for each way.
pub data Value : Type 0 where
  -- An address.
  addr : ℕ → Value
  -- Bytes, of class block or exprloc.
  block : List ℕ → Value
  -- A constant of 64 bits. A negative one stands in two's complement.
  const : ℕ → Value
  -- A text that stands in the entry.
  text : List ℕ → Value
  -- A flag.
  flag : Bool → Value
  -- An offset into `.debug_str`, where a text stands.
  str_at : ℕ → Value
  -- An offset into `.debug_line_str`, where a text stands.
  line_str_at : ℕ → Value
  -- A text, by its index in the unit's part of `.debug_str_offsets`.
  str_index : ℕ → Value
  -- An address, by its index in the unit's part of `.debug_addr`.
  addr_index : ℕ → Value
  -- An entry, by its offset in `.debug_info`.
  ref_info : ℕ → Value
  -- An entry, by its offset in the unit.
  ref : ℕ → Value
  -- A type unit, by its signature.
  sig : ℕ → Value
  -- An offset into the section that the attribute names.
  offset : ℕ → Value
  -- A list of locations, by its index.
  loc_index : ℕ → Value
  -- A range list, by its index in the unit's part of `.debug_rnglists`.
  range_index : ℕ → Value

-- Why bytes spell no value of a form.
pub data Fault : Type 0 where
  -- The code is none that is read.
  bad_form : Fault
  -- `DW_FORM_indirect` leads to `DW_FORM_indirect`.
  indirect_twice : Fault
  -- What the form has cannot be read.
  view : ViewFault → Fault

-- A signed number in two's complement of 64 bits.
abbrev pub twos_complement_of : ℤ → ℕ
twos_complement_of (pos n) = n
twos_complement_of (negsuc n) = 2 ^ 64 - (n + 1)
