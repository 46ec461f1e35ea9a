-- What is read is spelled so.
use Rattle.std.proofs.Common.{◌≡◌, ℕ, ℤ, Bool, true, inl, inr, List, [], ◌∷◌, ◌++◌, length, Option, None, Some, Result, Ok, Err, refl, ap, sym, ◌∙◌}
use Rattle.std.specs.Prelude.{◌==◌}
use Rattle.std.proofs.lemmas.Bool.{cases_Bool, eqb-true}
use Rattle.std.proofs.lemmas.List.{append_assoc}
use Rattle.byte_view.specs.Laws.{BeginsWith}
use Rattle.byte_view.specs.Reading.{Reading, SpellsField, SpellsRun, SpellsText, SpellsUleb, SpellsSleb, field_at, run_at, text_at, uleb_at, sleb_at}
use Rattle.byte_view.proofs.Fronts.{same_value, same_rest, field_at-spelled, run_at-spelled, text_at-spelled, uleb_at-spelled, sleb_at-spelled}
use Rattle.value_model.specs.Value.{Value, addr, block, const, text, flag, str_at, line_str_at, str_index, addr_index, ref_info, ref, sig, offset, loc_index, range_index}
use Rattle.value_model.specs.Forms.{Operand, in_abbreviation, other_form, flag_of, signed_const, offset_size, forms, look_up, operand_of}
use Rattle.value_model.specs.Reading.{ValueReading, taken_as, block_behind, direct_at, operand_at, value_behind, value_at}
use Rattle.value_model.specs.Spelling.{SpellsOffset, SpellsCounted, SpellsDirect, DW_FORM_addr, DW_FORM_block2, DW_FORM_block4, DW_FORM_data2, DW_FORM_data4, DW_FORM_data8, DW_FORM_string, DW_FORM_block, DW_FORM_block1, DW_FORM_data1, DW_FORM_flag, DW_FORM_sdata, DW_FORM_strp, DW_FORM_udata, DW_FORM_ref_addr, DW_FORM_ref1, DW_FORM_ref2, DW_FORM_ref4, DW_FORM_ref8, DW_FORM_ref_udata, DW_FORM_sec_offset, DW_FORM_exprloc, DW_FORM_flag_present, DW_FORM_strx, DW_FORM_addrx, DW_FORM_data16, DW_FORM_line_strp, DW_FORM_ref_sig8, DW_FORM_loclistx, DW_FORM_rnglistx, DW_FORM_strx1, DW_FORM_strx2, DW_FORM_strx3, DW_FORM_strx4, DW_FORM_addrx1, DW_FORM_addrx2, DW_FORM_addrx3, DW_FORM_addrx4, Spells, direct, DW_FORM_indirect, DW_FORM_implicit_const}
use Rattle.value_model.specs.Laws.{ReadIsSpelled}

-- a value taken as one of some class
module _ {X : Type 0} (class : X → Value) (SpellsX : List ℕ → X → Type 0) (SpellsValue : List ℕ → Value → Type 0) (reading : List ℕ → Reading X) (case : (bytes : List ℕ) (x : X) → SpellsX bytes x → SpellsValue bytes (class x)) (spelled : (bytes rest : List ℕ) (x : X) → reading bytes ≡ Ok (x, rest) → BeginsWith SpellsX bytes x rest) where
  front_of_reading : (bytes rest : List ℕ) (value : Value) (answer : Reading X) → reading bytes ≡ answer
      → taken_as class answer ≡ Ok (value, rest) → BeginsWith SpellsValue bytes value rest
  front_of_reading bytes rest value (Err fault) is e = absurd (cc)
  front_of_reading bytes rest value (Ok (x, behind)) is e =
      let value_is = same_value _ _ _ _ e in
      let rest_is = same_rest _ _ _ _ e in
      let begins = spelled bytes behind x is in
      record {
        front = begins.front;
        spelled = rw (← value_is) (case begins.front x begins.spelled);
        parts = rw (← rest_is) begins.parts;
      }

  front_taken : (bytes rest : List ℕ) (value : Value) → taken_as class (reading bytes) ≡ Ok (value, rest) → BeginsWith SpellsValue bytes value rest
  front_taken bytes rest value e = front_of_reading bytes rest value (reading bytes) refl e

-- a block behind its length
module _ (SpellsLength : List ℕ → ℕ → Type 0) (SpellsValue : List ℕ → Value → Type 0) (reading : List ℕ → Reading ℕ) (case : (bytes run : List ℕ) → SpellsCounted SpellsLength bytes run → SpellsValue bytes (block run)) (spelled : (bytes rest : List ℕ) (n : ℕ) → reading bytes ≡ Ok (n, rest) → BeginsWith SpellsLength bytes n rest) where
  front_of_block : (bytes rest : List ℕ) (value : Value) (answer : Reading ℕ) → reading bytes ≡ answer
      → block_behind answer ≡ Ok (value, rest) → BeginsWith SpellsValue bytes value rest
  front_of_block bytes rest value (Err fault) is e = absurd (cc)
  front_of_block bytes rest value (Ok (len, behind)) is e =
      let head = spelled bytes behind len is in
      let follows : (run_bytes run : List ℕ) → SpellsRun len run_bytes run → SpellsValue (head.front ++ run_bytes) (block run) =
      λ run_bytes run spells_run.
      let long : len ≡ length run = sym (spells_run.sized) ∙ ap length (sym spells_run.value) in
      case (head.front ++ run_bytes) run
      (record { head = head.front; counted = rw (← long) head.spelled; value = ap (λ (b : List ℕ). head.front ++ b) (sym spells_run.value) }) in
      let inner = front_taken block (SpellsRun len) (λ run_bytes v. SpellsValue (head.front ++ run_bytes) v) (run_at len) follows (run_at-spelled len) behind rest value e in
      record {
        front = head.front ++ inner.front;
        spelled = inner.spelled;
        parts = head.parts ∙ ap (λ (b : List ℕ). head.front ++ b) inner.parts ∙ sym (append_assoc head.front inner.front rest);
      }

  front_counted : (bytes rest : List ℕ) (value : Value) → block_behind (reading bytes) ≡ Ok (value, rest) → BeginsWith SpellsValue bytes value rest
  front_counted bytes rest value e = front_of_block bytes rest value (reading bytes) refl e

front_nothing : (what : Value) (SpellsValue : List ℕ → Value → Type 0) → SpellsValue [] what → (bytes rest : List ℕ) (value : Value)
    → ◌≡◌ {A = ValueReading} (Ok (what, bytes)) (Ok (value, rest)) → BeginsWith SpellsValue bytes value rest
front_nothing what SpellsValue case bytes rest value e =
    record {
      front = [];
      spelled = rw (← same_value _ _ _ _ e) case;
      parts = same_rest _ _ _ _ e;
    }

-- What the table has for a form: an operand that is read without the abbreviation, or one of the two others.
data Row : ℕ → Operand → Type 0 where
  plain : (form : ℕ) (operand : Operand)
      → ((implicit : ℤ) (wide : Bool) (bytes : List ℕ) → operand_at (Some operand) implicit wide bytes ≡ direct_at (Some operand) wide bytes)
      → ((wide : Bool) (bytes rest : List ℕ) (value : Value) → direct_at (Some operand) wide bytes ≡ Ok (value, rest) → BeginsWith (SpellsDirect wide form) bytes value rest)
      → Row form operand
  indirect_row : Row 0x16 other_form
  implicit_row : Row 0x21 in_abbreviation

abbrev EachRow : List (ℕ × Operand) → Type 0
EachRow [] = Unit {0}
EachRow ((form, operand) ∷ rest) = Row form operand × EachRow rest

rows : EachRow forms
rows = (
  plain _ _ (λ _ _ _. refl) (λ wide bytes rest value e. front_taken addr (SpellsField 8) (SpellsDirect wide 1) (field_at 8) DW_FORM_addr (field_at-spelled 8) bytes rest value e),
  (
    plain _ _ (λ _ _ _. refl) (λ wide bytes rest value e. front_counted (SpellsField 2) (SpellsDirect wide 3) (field_at 2) DW_FORM_block2 (field_at-spelled 2) bytes rest value e),
    (
      plain _ _ (λ _ _ _. refl) (λ wide bytes rest value e. front_counted (SpellsField 4) (SpellsDirect wide 4) (field_at 4) DW_FORM_block4 (field_at-spelled 4) bytes rest value e),
      (
        plain _ _ (λ _ _ _. refl) (λ wide bytes rest value e. front_taken const (SpellsField 2) (SpellsDirect wide 5) (field_at 2) DW_FORM_data2 (field_at-spelled 2) bytes rest value e),
        (
          plain _ _ (λ _ _ _. refl) (λ wide bytes rest value e. front_taken const (SpellsField 4) (SpellsDirect wide 6) (field_at 4) DW_FORM_data4 (field_at-spelled 4) bytes rest value e),
          (
            plain _ _ (λ _ _ _. refl) (λ wide bytes rest value e. front_taken const (SpellsField 8) (SpellsDirect wide 7) (field_at 8) DW_FORM_data8 (field_at-spelled 8) bytes rest value e),
            (
              plain _ _ (λ _ _ _. refl) (λ wide bytes rest value e. front_taken text SpellsText (SpellsDirect wide 8) text_at DW_FORM_string text_at-spelled bytes rest value e),
              (
                plain _ _ (λ _ _ _. refl) (λ wide bytes rest value e. front_counted SpellsUleb (SpellsDirect wide 9) uleb_at DW_FORM_block uleb_at-spelled bytes rest value e),
                (
                  plain _ _ (λ _ _ _. refl) (λ wide bytes rest value e. front_counted (SpellsField 1) (SpellsDirect wide 10) (field_at 1) DW_FORM_block1 (field_at-spelled 1) bytes rest value e),
                  (
                    plain _ _ (λ _ _ _. refl) (λ wide bytes rest value e. front_taken const (SpellsField 1) (SpellsDirect wide 11) (field_at 1) DW_FORM_data1 (field_at-spelled 1) bytes rest value e),
                    (
                      plain _ _ (λ _ _ _. refl) (λ wide bytes rest value e. front_taken flag_of (SpellsField 1) (SpellsDirect wide 12) (field_at 1) DW_FORM_flag (field_at-spelled 1) bytes rest value e),
                      (
                        plain _ _ (λ _ _ _. refl) (λ wide bytes rest value e. front_taken signed_const SpellsSleb (SpellsDirect wide 13) sleb_at DW_FORM_sdata sleb_at-spelled bytes rest value e),
                        (
                          plain _ _ (λ _ _ _. refl) (λ wide bytes rest value e. front_taken str_at (SpellsOffset wide) (SpellsDirect wide 14) (field_at (offset_size wide)) DW_FORM_strp (field_at-spelled (offset_size wide)) bytes rest value e),
                          (
                            plain _ _ (λ _ _ _. refl) (λ wide bytes rest value e. front_taken const SpellsUleb (SpellsDirect wide 15) uleb_at DW_FORM_udata uleb_at-spelled bytes rest value e),
                            (
                              plain _ _ (λ _ _ _. refl) (λ wide bytes rest value e. front_taken ref_info (SpellsOffset wide) (SpellsDirect wide 16) (field_at (offset_size wide)) DW_FORM_ref_addr (field_at-spelled (offset_size wide)) bytes rest value e),
                              (
                                plain _ _ (λ _ _ _. refl) (λ wide bytes rest value e. front_taken ref (SpellsField 1) (SpellsDirect wide 17) (field_at 1) DW_FORM_ref1 (field_at-spelled 1) bytes rest value e),
                                (
                                  plain _ _ (λ _ _ _. refl) (λ wide bytes rest value e. front_taken ref (SpellsField 2) (SpellsDirect wide 18) (field_at 2) DW_FORM_ref2 (field_at-spelled 2) bytes rest value e),
                                  (
                                    plain _ _ (λ _ _ _. refl) (λ wide bytes rest value e. front_taken ref (SpellsField 4) (SpellsDirect wide 19) (field_at 4) DW_FORM_ref4 (field_at-spelled 4) bytes rest value e),
                                    (
                                      plain _ _ (λ _ _ _. refl) (λ wide bytes rest value e. front_taken ref (SpellsField 8) (SpellsDirect wide 20) (field_at 8) DW_FORM_ref8 (field_at-spelled 8) bytes rest value e),
                                      (
                                        plain _ _ (λ _ _ _. refl) (λ wide bytes rest value e. front_taken ref SpellsUleb (SpellsDirect wide 21) uleb_at DW_FORM_ref_udata uleb_at-spelled bytes rest value e),
                                        (
                                          indirect_row,
                                          (
                                            plain _ _ (λ _ _ _. refl) (λ wide bytes rest value e. front_taken offset (SpellsOffset wide) (SpellsDirect wide 23) (field_at (offset_size wide)) DW_FORM_sec_offset (field_at-spelled (offset_size wide)) bytes rest value e),
                                            (
                                              plain _ _ (λ _ _ _. refl) (λ wide bytes rest value e. front_counted SpellsUleb (SpellsDirect wide 24) uleb_at DW_FORM_exprloc uleb_at-spelled bytes rest value e),
                                              (
                                                plain _ _ (λ _ _ _. refl) (λ wide bytes rest value e. front_nothing (flag true) (SpellsDirect wide 25) DW_FORM_flag_present bytes rest value e),
                                                (
                                                  plain _ _ (λ _ _ _. refl) (λ wide bytes rest value e. front_taken str_index SpellsUleb (SpellsDirect wide 26) uleb_at DW_FORM_strx uleb_at-spelled bytes rest value e),
                                                  (
                                                    plain _ _ (λ _ _ _. refl) (λ wide bytes rest value e. front_taken addr_index SpellsUleb (SpellsDirect wide 27) uleb_at DW_FORM_addrx uleb_at-spelled bytes rest value e),
                                                    (
                                                      plain _ _ (λ _ _ _. refl) (λ wide bytes rest value e. front_taken block (SpellsRun 16) (SpellsDirect wide 30) (run_at 16) DW_FORM_data16 (run_at-spelled 16) bytes rest value e),
                                                      (
                                                        plain _ _ (λ _ _ _. refl) (λ wide bytes rest value e. front_taken line_str_at (SpellsOffset wide) (SpellsDirect wide 31) (field_at (offset_size wide)) DW_FORM_line_strp (field_at-spelled (offset_size wide)) bytes rest value e),
                                                        (
                                                          plain _ _ (λ _ _ _. refl) (λ wide bytes rest value e. front_taken sig (SpellsField 8) (SpellsDirect wide 32) (field_at 8) DW_FORM_ref_sig8 (field_at-spelled 8) bytes rest value e),
                                                          (
                                                            implicit_row,
                                                            (
                                                              plain _ _ (λ _ _ _. refl) (λ wide bytes rest value e. front_taken loc_index SpellsUleb (SpellsDirect wide 34) uleb_at DW_FORM_loclistx uleb_at-spelled bytes rest value e),
                                                              (
                                                                plain _ _ (λ _ _ _. refl) (λ wide bytes rest value e. front_taken range_index SpellsUleb (SpellsDirect wide 35) uleb_at DW_FORM_rnglistx uleb_at-spelled bytes rest value e),
                                                                (
                                                                  plain _ _ (λ _ _ _. refl) (λ wide bytes rest value e. front_taken str_index (SpellsField 1) (SpellsDirect wide 37) (field_at 1) DW_FORM_strx1 (field_at-spelled 1) bytes rest value e),
                                                                  (
                                                                    plain _ _ (λ _ _ _. refl) (λ wide bytes rest value e. front_taken str_index (SpellsField 2) (SpellsDirect wide 38) (field_at 2) DW_FORM_strx2 (field_at-spelled 2) bytes rest value e),
                                                                    (
                                                                      plain _ _ (λ _ _ _. refl) (λ wide bytes rest value e. front_taken str_index (SpellsField 3) (SpellsDirect wide 39) (field_at 3) DW_FORM_strx3 (field_at-spelled 3) bytes rest value e),
                                                                      (
                                                                        plain _ _ (λ _ _ _. refl) (λ wide bytes rest value e. front_taken str_index (SpellsField 4) (SpellsDirect wide 40) (field_at 4) DW_FORM_strx4 (field_at-spelled 4) bytes rest value e),
                                                                        (
                                                                          plain _ _ (λ _ _ _. refl) (λ wide bytes rest value e. front_taken addr_index (SpellsField 1) (SpellsDirect wide 41) (field_at 1) DW_FORM_addrx1 (field_at-spelled 1) bytes rest value e),
                                                                          (
                                                                            plain _ _ (λ _ _ _. refl) (λ wide bytes rest value e. front_taken addr_index (SpellsField 2) (SpellsDirect wide 42) (field_at 2) DW_FORM_addrx2 (field_at-spelled 2) bytes rest value e),
                                                                            (
                                                                              plain _ _ (λ _ _ _. refl) (λ wide bytes rest value e. front_taken addr_index (SpellsField 3) (SpellsDirect wide 43) (field_at 3) DW_FORM_addrx3 (field_at-spelled 3) bytes rest value e),
                                                                              (
                                                                                plain _ _ (λ _ _ _. refl) (λ wide bytes rest value e. front_taken addr_index (SpellsField 4) (SpellsDirect wide 44) (field_at 4) DW_FORM_addrx4 (field_at-spelled 4) bytes rest value e),
                                                                                tt {0},
                                                                              ),
                                                                            ),
                                                                          ),
                                                                        ),
                                                                      ),
                                                                    ),
                                                                  ),
                                                                ),
                                                              ),
                                                            ),
                                                          ),
                                                        ),
                                                      ),
                                                    ),
                                                  ),
                                                ),
                                              ),
                                            ),
                                          ),
                                        ),
                                      ),
                                    ),
                                  ),
                                ),
                              ),
                            ),
                          ),
                        ),
                      ),
                    ),
                  ),
                ),
              ),
            ),
          ),
        ),
      ),
    ),
  ),
)

row_looked_up : (table : List (ℕ × Operand)) (code : ℕ) (operand : Operand) → EachRow table → look_up table code ≡ Some operand → Row code operand
row_looked_up [] code operand each e = absurd (cc)
row_looked_up ((first, found) ∷ rest) code operand each e =
    elim (cases_Bool (code == first)) [
      | inl same ↦
          let here = rw same at e in
          let operand_is : found ≡ operand = cc in
          let code_is = eqb-true code first same in
          rw (code_is, ← operand_is) each.0
      | inr other ↦ row_looked_up rest code operand each.1 (rw other at e)
    ]

direct_at-row : (form : ℕ) (operand : Operand) → Row form operand → (wide : Bool) (bytes rest : List ℕ) (value : Value)
    → direct_at (Some operand) wide bytes ≡ Ok (value, rest) → BeginsWith (SpellsDirect wide form) bytes value rest
direct_at-row _ _ (plain form operand same begins) wide bytes rest value e = begins wide bytes rest value e
direct_at-row _ _ indirect_row wide bytes rest value e = absurd (cc)
direct_at-row _ _ implicit_row wide bytes rest value e = absurd (cc)

direct_at-spelled : (form : ℕ) (operand : Option Operand) → operand_of form ≡ operand → (wide : Bool) (bytes rest : List ℕ) (value : Value)
    → direct_at operand wide bytes ≡ Ok (value, rest) → BeginsWith (SpellsDirect wide form) bytes value rest
unfolding operand_of
direct_at-spelled form None is wide bytes rest value e = absurd (cc)
direct_at-spelled form (Some operand) is wide bytes rest value e =
    direct_at-row form operand (row_looked_up forms form operand rows is) wide bytes rest value e

value_behind-spelled : (implicit : ℤ) (wide : Bool) (bytes rest : List ℕ) (value : Value) (answer : Reading ℕ) → uleb_at bytes ≡ answer
    → value_behind wide answer ≡ Ok (value, rest) → BeginsWith (Spells implicit wide 0x16) bytes value rest
value_behind-spelled implicit wide bytes rest value (Err fault) is e = absurd (cc)
value_behind-spelled implicit wide bytes rest value (Ok (code, behind)) is e =
    let head = uleb_at-spelled bytes behind code is in
    let inner = direct_at-spelled code (operand_of code) refl wide behind rest value e in
    record {
      front = head.front ++ inner.front;
      spelled = DW_FORM_indirect code head.front inner.front value head.spelled inner.spelled;
      parts = head.parts ∙ ap (λ (b : List ℕ). head.front ++ b) inner.parts ∙ sym (append_assoc head.front inner.front rest);
    }

operand_at-row : (form : ℕ) (operand : Operand) → Row form operand → (implicit : ℤ) (wide : Bool) (bytes rest : List ℕ) (value : Value)
    → operand_at (Some operand) implicit wide bytes ≡ Ok (value, rest) → BeginsWith (Spells implicit wide form) bytes value rest
operand_at-row _ _ (plain form operand same begins) implicit wide bytes rest value e =
    let found = begins wide bytes rest value (sym (same implicit wide bytes) ∙ e) in
    record { front = found.front; spelled = direct form found.front value found.spelled; parts = found.parts }
operand_at-row _ _ indirect_row implicit wide bytes rest value e =
    value_behind-spelled implicit wide bytes rest value (uleb_at bytes) refl e
operand_at-row _ _ implicit_row implicit wide bytes rest value e =
    front_nothing (signed_const implicit) (Spells implicit wide 0x21) DW_FORM_implicit_const bytes rest value e

operand_at-spelled : (form : ℕ) (operand : Option Operand) → operand_of form ≡ operand → (implicit : ℤ) (wide : Bool) (bytes rest : List ℕ) (value : Value)
    → operand_at operand implicit wide bytes ≡ Ok (value, rest) → BeginsWith (Spells implicit wide form) bytes value rest
unfolding operand_of
operand_at-spelled form None is implicit wide bytes rest value e = absurd (cc)
operand_at-spelled form (Some operand) is implicit wide bytes rest value e =
    operand_at-row form operand (row_looked_up forms form operand rows is) implicit wide bytes rest value e

pub value_at-spelled : ReadIsSpelled
unfolding value_at
value_at-spelled form implicit wide bytes rest value e =
    operand_at-spelled form (operand_of form) refl implicit wide bytes rest value e
