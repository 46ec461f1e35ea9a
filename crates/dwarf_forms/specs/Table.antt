-- Tables of codes.
use Rattle.std.specs.Prelude.{◌≡◌, ℕ, Bool, true, nat_lt, ◌&&◌, List, [], ◌∷◌, map, filter, is_none, is_some}
use Rattle.value_model.specs.Forms.{forms, operand_of}

-- Each number is above the one before it.
abbrev pub ascends : List ℕ → Bool
ascends [] = true
ascends (first ∷ []) = true
ascends (first ∷ second ∷ rest) = nat_lt first second && ascends (second ∷ rest)

-- Those of some codes that are read are all that are read.
abbrev pub HasReadForms : List ℕ → Type 0
HasReadForms codes = filter (λ code. is_some (operand_of code)) codes ≡ map (λ row. row.0) forms

-- Those of some codes that are not read are the codes of the forms that lead into another file: DW_FORM_ref_sup4,
-- DW_FORM_strp_sup and DW_FORM_ref_sup8 (DWARF 5, section 7.5.6, table 7.6).
abbrev pub HasFormsOfOtherFiles : List ℕ → Type 0
HasFormsOfOtherFiles codes = filter (λ code. is_none (operand_of code)) codes ≡ 0x1c ∷ 0x1d ∷ 0x24 ∷ []
