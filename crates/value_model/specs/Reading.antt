-- The value at the front of some bytes.
use Rattle.std.specs.Prelude.{ℕ, ℤ, Bool, List, Option, None, Some, Result, Ok, Err}
use Rattle.byte_view.specs.Reading.{Reading, field_at, run_at, text_at, uleb_at, sleb_at}
use Rattle.value_model.specs.Value.{Value, block, text, Fault, bad_form, indirect_twice, view}
use Rattle.value_model.specs.Forms.{Operand, field, unsigned, signed, offset_field, run, counted, counted_uleb, text_operand, nothing, in_abbreviation, other_form, signed_const, operand_of, offset_size}

-- A value at the front and the bytes behind it, or why there is none.
abbrev pub ValueReading : Type 0
ValueReading = Result (Value × List ℕ) Fault

-- What is read, taken as a value of some class.
abbrev pub taken_as : {X : Type 0} → (X → Value) → Reading X → ValueReading
taken_as class (Ok (x, rest)) = Ok (class x, rest)
taken_as class (Err fault) = Err (view fault)

-- A length was read, and a block of this length follows.
abbrev pub block_behind : Reading ℕ → ValueReading
block_behind (Ok (length, rest)) = taken_as block (run_at length rest)
block_behind (Err fault) = Err (view fault)

-- The value of a form that needs no abbreviation.
abbrev pub direct_at : Option Operand → Bool → List ℕ → ValueReading
direct_at None wide bytes = Err bad_form
direct_at (Some (field size class)) wide bytes = taken_as class (field_at size bytes)
direct_at (Some (unsigned class)) wide bytes = taken_as class (uleb_at bytes)
direct_at (Some (signed class)) wide bytes = taken_as class (sleb_at bytes)
direct_at (Some (offset_field class)) wide bytes = taken_as class (field_at (offset_size wide) bytes)
direct_at (Some (run size)) wide bytes = taken_as block (run_at size bytes)
direct_at (Some (counted size)) wide bytes = block_behind (field_at size bytes)
direct_at (Some counted_uleb) wide bytes = block_behind (uleb_at bytes)
direct_at (Some text_operand) wide bytes = taken_as text (text_at bytes)
direct_at (Some (nothing value)) wide bytes = Ok (value, bytes)
direct_at (Some in_abbreviation) wide bytes = Err bad_form
direct_at (Some other_form) wide bytes = Err indirect_twice

-- A form's code was read, and a value of that form follows. It is another form than DW_FORM_indirect, and no
-- DW_FORM_implicit_const, whose value would have to stand in the abbreviation.
abbrev pub value_behind : Bool → Reading ℕ → ValueReading
value_behind wide (Ok (code, rest)) = direct_at (operand_of code) wide rest
value_behind wide (Err fault) = Err (view fault)

-- The value of a form, beside the constant that its abbreviation has.
abbrev pub operand_at : Option Operand → ℤ → Bool → List ℕ → ValueReading
operand_at (Some in_abbreviation) implicit wide bytes = Ok (signed_const implicit, bytes)
operand_at (Some other_form) implicit wide bytes = value_behind wide (uleb_at bytes)
operand_at operand implicit wide bytes = direct_at operand wide bytes

-- The value of the form of this code. `implicit` is the constant that the abbreviation has for
-- DW_FORM_implicit_const, and `wide` says that the unit is 64-bit DWARF.
unfoldable pub value_at : ℕ → ℤ → Bool → List ℕ → ValueReading
value_at form implicit wide bytes = operand_at (operand_of form) implicit wide bytes
