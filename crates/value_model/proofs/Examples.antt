-- Values on worked bytes.
use Rattle.std.proofs.Common.{◌≡◌, ◌^◌, ◌-◌, true, false, [], ◌∷◌, pos, negsuc, Ok, Err, refl}
use Rattle.byte_view.specs.declared.fault.ViewFault.TheVariants.{Short}
use Rattle.byte_view.specs.Reading.{field_at, run_at, text_at, uleb_at, sleb_at}
use Rattle.value_model.specs.Value.{addr, block, const, text, flag, str_at, ref, bad_form, indirect_twice, view}
use Rattle.value_model.specs.Forms.{operand_of}
use Rattle.value_model.specs.Reading.{value_at}

an_address : value_at 0x01 (pos 0) false (0 ∷ 16 ∷ 64 ∷ 0 ∷ 0 ∷ 0 ∷ 0 ∷ 0 ∷ 9 ∷ []) ≡ Ok (addr 0x401000, 9 ∷ [])
unfolding value_at operand_of field_at
an_address = refl

a_block : value_at 0x0a (pos 0) false (2 ∷ 7 ∷ 8 ∷ 9 ∷ []) ≡ Ok (block (7 ∷ 8 ∷ []), 9 ∷ [])
unfolding value_at operand_of field_at run_at
a_block = refl

a_signed_constant : value_at 0x0d (pos 0) false (127 ∷ []) ≡ Ok (const (2 ^ 64 - 1), [])
unfolding value_at operand_of sleb_at
a_signed_constant = refl

a_constant_of_the_abbreviation : value_at 0x21 (negsuc 0) false (5 ∷ []) ≡ Ok (const (2 ^ 64 - 1), 5 ∷ [])
unfolding value_at operand_of
a_constant_of_the_abbreviation = refl

a_text : value_at 0x08 (pos 0) false (104 ∷ 105 ∷ 0 ∷ []) ≡ Ok (text (104 ∷ 105 ∷ []), [])
unfolding value_at operand_of text_at
a_text = refl

a_short_offset : value_at 0x0e (pos 0) false (1 ∷ 0 ∷ 0 ∷ 0 ∷ 2 ∷ 0 ∷ 0 ∷ 0 ∷ []) ≡ Ok (str_at 1, 2 ∷ 0 ∷ 0 ∷ 0 ∷ [])
unfolding value_at operand_of field_at
a_short_offset = refl

a_wide_offset : value_at 0x0e (pos 0) true (1 ∷ 0 ∷ 0 ∷ 0 ∷ 2 ∷ 0 ∷ 0 ∷ 0 ∷ []) ≡ Ok (str_at 0x200000001, [])
unfolding value_at operand_of field_at
a_wide_offset = refl

an_indirect_reference : value_at 0x16 (pos 0) false (0x11 ∷ 9 ∷ []) ≡ Ok (ref 9, [])
unfolding value_at operand_of uleb_at field_at
an_indirect_reference = refl

twice : value_at 0x16 (pos 0) false (0x16 ∷ 0x11 ∷ 9 ∷ []) ≡ Err indirect_twice
unfolding value_at operand_of uleb_at
twice = refl

no_abbreviation_behind_indirect : value_at 0x16 (pos 7) false (0x21 ∷ []) ≡ Err bad_form
unfolding value_at operand_of uleb_at
no_abbreviation_behind_indirect = refl

another_file : value_at 0x1d (pos 0) false (1 ∷ 0 ∷ 0 ∷ 0 ∷ []) ≡ Err bad_form
unfolding value_at operand_of
another_file = refl

no_form : value_at 0x02 (pos 0) false [] ≡ Err bad_form
unfolding value_at operand_of
no_form = refl

cut_block : value_at 0x0a (pos 0) false (2 ∷ 7 ∷ []) ≡ Err (view Short)
unfolding value_at operand_of field_at run_at
cut_block = refl

set_flag : value_at 0x0c (pos 0) false (2 ∷ []) ≡ Ok (flag true, [])
unfolding value_at operand_of field_at
set_flag = refl
