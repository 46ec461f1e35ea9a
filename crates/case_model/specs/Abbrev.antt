-- The section `.debug_abbrev`: how the four kinds of entries are laid out (DWARF 5, section 7.5.3).
use Rattle.std.specs.Prelude.{ℕ, List, [], ◌∷◌, ◌++◌}
use Rattle.std.specs.List.{flat_map}
use Rattle.case_model.specs.Bytes.{uleb}
use Rattle.case_model.specs.Dwarf.{tag_compile_unit, tag_inlined_subroutine, tag_subprogram, children_no, children_yes}
use Rattle.case_model.specs.Dwarf.{at_name, at_stmt_list, at_low_pc, at_high_pc, at_abstract_origin, at_decl_line, at_call_line, at_gnu_discriminator}
use Rattle.case_model.specs.Dwarf.{form_addr, form_data1, form_data2, form_data4, form_ref4, form_sec_offset, form_string}

-- The codes of the four kinds: the unit, the function that is inlined, a function, and an inlined call.
abbrev pub unit_code : ℕ
unit_code = 1

abbrev pub abstract_code : ℕ
abstract_code = 2

abbrev pub function_code : ℕ
function_code = 3

abbrev pub inlined_code : ℕ
inlined_code = 4

-- An abbreviation: its code, its tag, whether it has children, its attributes with their forms, and two zeros.
abbrev pub abbreviation : ℕ → ℕ → ℕ → List (ℕ × ℕ) → List ℕ
abbreviation code tag children attributes =
    uleb code ++ uleb tag ++ children ∷ [] ++ flat_map (λ pair. uleb pair.0 ++ uleb pair.1) attributes ++ 0 ∷ 0 ∷ []

-- The unit has a line program.
unfoldable pub unit_kind : List ℕ
unit_kind = abbreviation unit_code tag_compile_unit children_yes ((at_stmt_list, form_sec_offset) ∷ [])

-- The function that is inlined has a name and a line.
unfoldable pub abstract_kind : List ℕ
abstract_kind =
    abbreviation abstract_code tag_subprogram children_no ((at_name, form_string) ∷ (at_decl_line, form_data1) ∷ [])

-- A function has a name, a line, an address and a size, and entries below it.
unfoldable pub function_kind : List ℕ
function_kind =
    abbreviation function_code tag_subprogram children_yes
    ((at_name, form_string) ∷ (at_decl_line, form_data2) ∷ (at_low_pc, form_addr) ∷ (at_high_pc, form_data4) ∷ [])

-- An inlined call says of which function, at which address, how large, and from where it is called.
unfoldable pub inlined_kind : List ℕ
inlined_kind =
    abbreviation inlined_code tag_inlined_subroutine children_no
    ((at_abstract_origin, form_ref4) ∷ (at_low_pc, form_addr) ∷ (at_high_pc, form_data4) ∷ (at_call_line, form_data2)
    ∷ (at_gnu_discriminator, form_data1) ∷ [])

-- The four abbreviations, and the zero that ends them.
unfoldable pub debug_abbrev : List ℕ
debug_abbrev = unit_kind ++ abstract_kind ++ function_kind ++ inlined_kind ++ 0 ∷ []
