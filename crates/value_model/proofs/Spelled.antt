-- What is spelled is read, and what is read is spelled.
use Rattle.std.proofs.Common.{◌≡◌, ℕ, ℤ, Bool, List, ◌++◌, length, Ok, Option, None, Some, refl, ap, sym, ◌∙◌}
use Rattle.std.proofs.lemmas.List.{append_assoc, append_cancel_right}
use Rattle.byte_view.specs.Reading.{Reading, SpellsField, SpellsUleb, field_at, uleb_at}
use Rattle.byte_view.proofs.Spellings.{field_at-again, run_at-again, text_at-again, uleb_at-again, sleb_at-again}
use Rattle.value_model.specs.Value.{Value, addr, block, const, text, str_at, line_str_at, str_index, addr_index, ref_info, ref, sig, offset, loc_index, range_index}
use Rattle.value_model.specs.Forms.{Operand, in_abbreviation, other_form, flag_of, signed_const, offset_size, operand_of}
use Rattle.value_model.specs.Reading.{ValueReading, taken_as, block_behind, direct_at, operand_at, value_at}
use Rattle.value_model.specs.Spelling.{SpellsCounted, SpellsDirect, DW_FORM_addr, DW_FORM_block2, DW_FORM_block4, DW_FORM_data2, DW_FORM_data4, DW_FORM_data8, DW_FORM_string, DW_FORM_block, DW_FORM_block1, DW_FORM_data1, DW_FORM_flag, DW_FORM_sdata, DW_FORM_strp, DW_FORM_udata, DW_FORM_ref_addr, DW_FORM_ref1, DW_FORM_ref2, DW_FORM_ref4, DW_FORM_ref8, DW_FORM_ref_udata, DW_FORM_sec_offset, DW_FORM_exprloc, DW_FORM_flag_present, DW_FORM_strx, DW_FORM_addrx, DW_FORM_data16, DW_FORM_line_strp, DW_FORM_ref_sig8, DW_FORM_loclistx, DW_FORM_rnglistx, DW_FORM_strx1, DW_FORM_strx2, DW_FORM_strx3, DW_FORM_strx4, DW_FORM_addrx1, DW_FORM_addrx2, DW_FORM_addrx3, DW_FORM_addrx4, direct, DW_FORM_indirect, DW_FORM_implicit_const}
use Rattle.value_model.specs.Laws.{SpelledIsRead, NoSpellingBeginsAnother}

-- a block is read behind its length
block_behind-again : (SpellsLength : List ℕ → ℕ → Type 0) (reading : List ℕ → Reading ℕ)
    → ((bytes rest : List ℕ) (n : ℕ) → SpellsLength bytes n → reading (bytes ++ rest) ≡ Ok (n, rest))
    → (bytes run rest : List ℕ) → SpellsCounted SpellsLength bytes run → block_behind (reading (bytes ++ rest)) ≡ Ok (block run, rest)
block_behind-again SpellsLength reading again bytes run rest spelled =
    let regrouped : bytes ++ rest ≡ spelled.head ++ (run ++ rest) = rw spelled.value (append_assoc spelled.head run rest) in
    let length_read = again spelled.head (run ++ rest) (length run) spelled.counted in
    let run_read = run_at-again (length run) run rest run (record { sized = refl; value = refl }) in
    rw (regrouped, length_read) (ap (taken_as block) run_read)

direct_at-again : (wide : Bool) (form : ℕ) (bytes : List ℕ) (value : Value) → SpellsDirect wide form bytes value → (rest : List ℕ)
    → direct_at (operand_of form) wide (bytes ++ rest) ≡ Ok (value, rest)
unfolding operand_of
direct_at-again wide _ _ _ (DW_FORM_addr bytes n spelled) rest = ap (taken_as addr) (field_at-again 8 bytes rest n spelled)
direct_at-again wide _ _ _ (DW_FORM_block2 bytes run spelled) rest = block_behind-again (SpellsField 2) (field_at 2) (field_at-again 2) bytes run rest spelled
direct_at-again wide _ _ _ (DW_FORM_block4 bytes run spelled) rest = block_behind-again (SpellsField 4) (field_at 4) (field_at-again 4) bytes run rest spelled
direct_at-again wide _ _ _ (DW_FORM_data2 bytes n spelled) rest = ap (taken_as const) (field_at-again 2 bytes rest n spelled)
direct_at-again wide _ _ _ (DW_FORM_data4 bytes n spelled) rest = ap (taken_as const) (field_at-again 4 bytes rest n spelled)
direct_at-again wide _ _ _ (DW_FORM_data8 bytes n spelled) rest = ap (taken_as const) (field_at-again 8 bytes rest n spelled)
direct_at-again wide _ _ _ (DW_FORM_string bytes run spelled) rest = ap (taken_as text) (text_at-again bytes rest run spelled)
direct_at-again wide _ _ _ (DW_FORM_block bytes run spelled) rest = block_behind-again SpellsUleb uleb_at uleb_at-again bytes run rest spelled
direct_at-again wide _ _ _ (DW_FORM_block1 bytes run spelled) rest = block_behind-again (SpellsField 1) (field_at 1) (field_at-again 1) bytes run rest spelled
direct_at-again wide _ _ _ (DW_FORM_data1 bytes n spelled) rest = ap (taken_as const) (field_at-again 1 bytes rest n spelled)
direct_at-again wide _ _ _ (DW_FORM_flag bytes n spelled) rest = ap (taken_as flag_of) (field_at-again 1 bytes rest n spelled)
direct_at-again wide _ _ _ (DW_FORM_sdata bytes z spelled) rest = ap (taken_as signed_const) (sleb_at-again bytes rest z spelled)
direct_at-again wide _ _ _ (DW_FORM_strp bytes n spelled) rest = ap (taken_as str_at) (field_at-again (offset_size wide) bytes rest n spelled)
direct_at-again wide _ _ _ (DW_FORM_udata bytes n spelled) rest = ap (taken_as const) (uleb_at-again bytes rest n spelled)
direct_at-again wide _ _ _ (DW_FORM_ref_addr bytes n spelled) rest = ap (taken_as ref_info) (field_at-again (offset_size wide) bytes rest n spelled)
direct_at-again wide _ _ _ (DW_FORM_ref1 bytes n spelled) rest = ap (taken_as ref) (field_at-again 1 bytes rest n spelled)
direct_at-again wide _ _ _ (DW_FORM_ref2 bytes n spelled) rest = ap (taken_as ref) (field_at-again 2 bytes rest n spelled)
direct_at-again wide _ _ _ (DW_FORM_ref4 bytes n spelled) rest = ap (taken_as ref) (field_at-again 4 bytes rest n spelled)
direct_at-again wide _ _ _ (DW_FORM_ref8 bytes n spelled) rest = ap (taken_as ref) (field_at-again 8 bytes rest n spelled)
direct_at-again wide _ _ _ (DW_FORM_ref_udata bytes n spelled) rest = ap (taken_as ref) (uleb_at-again bytes rest n spelled)
direct_at-again wide _ _ _ (DW_FORM_sec_offset bytes n spelled) rest = ap (taken_as offset) (field_at-again (offset_size wide) bytes rest n spelled)
direct_at-again wide _ _ _ (DW_FORM_exprloc bytes run spelled) rest = block_behind-again SpellsUleb uleb_at uleb_at-again bytes run rest spelled
direct_at-again wide _ _ _ DW_FORM_flag_present rest = refl
direct_at-again wide _ _ _ (DW_FORM_strx bytes n spelled) rest = ap (taken_as str_index) (uleb_at-again bytes rest n spelled)
direct_at-again wide _ _ _ (DW_FORM_addrx bytes n spelled) rest = ap (taken_as addr_index) (uleb_at-again bytes rest n spelled)
direct_at-again wide _ _ _ (DW_FORM_data16 bytes run spelled) rest = ap (taken_as block) (run_at-again 16 bytes rest run spelled)
direct_at-again wide _ _ _ (DW_FORM_line_strp bytes n spelled) rest = ap (taken_as line_str_at) (field_at-again (offset_size wide) bytes rest n spelled)
direct_at-again wide _ _ _ (DW_FORM_ref_sig8 bytes n spelled) rest = ap (taken_as sig) (field_at-again 8 bytes rest n spelled)
direct_at-again wide _ _ _ (DW_FORM_loclistx bytes n spelled) rest = ap (taken_as loc_index) (uleb_at-again bytes rest n spelled)
direct_at-again wide _ _ _ (DW_FORM_rnglistx bytes n spelled) rest = ap (taken_as range_index) (uleb_at-again bytes rest n spelled)
direct_at-again wide _ _ _ (DW_FORM_strx1 bytes n spelled) rest = ap (taken_as str_index) (field_at-again 1 bytes rest n spelled)
direct_at-again wide _ _ _ (DW_FORM_strx2 bytes n spelled) rest = ap (taken_as str_index) (field_at-again 2 bytes rest n spelled)
direct_at-again wide _ _ _ (DW_FORM_strx3 bytes n spelled) rest = ap (taken_as str_index) (field_at-again 3 bytes rest n spelled)
direct_at-again wide _ _ _ (DW_FORM_strx4 bytes n spelled) rest = ap (taken_as str_index) (field_at-again 4 bytes rest n spelled)
direct_at-again wide _ _ _ (DW_FORM_addrx1 bytes n spelled) rest = ap (taken_as addr_index) (field_at-again 1 bytes rest n spelled)
direct_at-again wide _ _ _ (DW_FORM_addrx2 bytes n spelled) rest = ap (taken_as addr_index) (field_at-again 2 bytes rest n spelled)
direct_at-again wide _ _ _ (DW_FORM_addrx3 bytes n spelled) rest = ap (taken_as addr_index) (field_at-again 3 bytes rest n spelled)
direct_at-again wide _ _ _ (DW_FORM_addrx4 bytes n spelled) rest = ap (taken_as addr_index) (field_at-again 4 bytes rest n spelled)

-- the abbreviation's constant changes nothing for a form that is read without it
operand_at-direct : (operand : Option Operand) (implicit : ℤ) (wide : Bool) (bytes rest : List ℕ) (value : Value)
    → direct_at operand wide bytes ≡ Ok (value, rest) → operand_at operand implicit wide bytes ≡ Ok (value, rest)
operand_at-direct None implicit wide bytes rest value e = e
operand_at-direct (Some in_abbreviation) implicit wide bytes rest value e = absurd (cc)
operand_at-direct (Some other_form) implicit wide bytes rest value e = absurd (cc)
operand_at-direct (Some _) implicit wide bytes rest value e = e

pub value_at-again : SpelledIsRead
unfolding value_at operand_of
value_at-again _ implicit wide _ rest _ (direct form bytes value spelled) =
    operand_at-direct (operand_of form) implicit wide (bytes ++ rest) rest value (direct_at-again wide form bytes value spelled rest)
value_at-again _ implicit wide _ rest _ (DW_FORM_indirect form head bytes value code spelled) =
    let regrouped = append_assoc head bytes rest in
    let code_read = uleb_at-again head (bytes ++ rest) form code in
    rw (regrouped, code_read) (direct_at-again wide form bytes value spelled rest)
value_at-again _ implicit wide _ rest _ DW_FORM_implicit_const = refl

-- so no spelling begins another
pub spellings-prefix_free : NoSpellingBeginsAnother
spellings-prefix_free form implicit wide a b x y m n spells_a spells_b same =
    let read = value_at-again form implicit wide a x m spells_a in
    let other = value_at-again form implicit wide b y n spells_b in
    let answers : ◌≡◌ {A = ValueReading} (Ok (m, x)) (Ok (n, y)) = sym read ∙ rw same other in
    let pair : ◌≡◌ {A = Value × List ℕ} (m, x) (n, y) = cc in
    let value_is = ap (λ (p : Value × List ℕ). p.0) pair in
    let rest_is = ap (λ (p : Value × List ℕ). p.1) pair in
    let regrouped : a ++ x ≡ b ++ x = rw (← rest_is) at same in
    (append_cancel_right a b x regrouped, value_is)
