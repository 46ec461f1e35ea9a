-- The definitions on worked values.
use Rattle.std.proofs.Common.{◌≡◌, [], ◌∷◌, refl, Some, None}
use Rattle.std.specs.Prelude.{codes, pos, negsuc}
use Rattle.std.specs.Fmt.{digits}
use Rattle.text_model.specs.Lines.{lines_of, ended_lines_of}
use Rattle.text_model.specs.Fields.{fields_of}
use Rattle.text_model.specs.Numbers.{number_of, hex_of, prefixed_of, hex_text, decimal_text, signed_of, signed_text}

three_lines : lines_of (codes "ab\n\nc\r") ≡ codes "ab" ∷ [] ∷ codes "c\r" ∷ []
unfolding lines_of
three_lines = refl

an_ended_line : lines_of (codes "ab\n") ≡ codes "ab" ∷ []
unfolding lines_of
an_ended_line = refl

no_line : lines_of [] ≡ []
unfolding lines_of
no_line = refl

an_empty_line : lines_of (codes "\n") ≡ [] ∷ []
unfolding lines_of
an_empty_line = refl

only_line_feeds : (lines_of (codes "\n\n\n") ≡ [] ∷ [] ∷ [] ∷ []) × (ended_lines_of (codes "\n\n\n") ≡ [] ∷ [] ∷ [] ∷ [])
unfolding lines_of ended_lines_of
only_line_feeds = (refl, refl)

one_ended : ended_lines_of (codes "ab\nc") ≡ codes "ab" ∷ []
unfolding ended_lines_of
one_ended = refl

two_fields : fields_of (codes " \ta/b  c\r\t") ≡ codes "a/b" ∷ codes "c\r" ∷ []
unfolding fields_of
two_fields = refl

-- NUL, vertical tab, form feed, carriage return and a byte that is not ASCII are bytes of fields.
other_bytes_are_of_fields : fields_of (32 ∷ 0 ∷ 9 ∷ 11 ∷ 12 ∷ 13 ∷ 32 ∷ 160 ∷ []) ≡ (0 ∷ []) ∷ (11 ∷ 12 ∷ 13 ∷ []) ∷ (160 ∷ []) ∷ []
unfolding fields_of
other_bytes_are_of_fields = refl

no_field : fields_of (codes " \t ") ≡ []
unfolding fields_of
no_field = refl

a_hex : hex_of (codes "00fFa") ≡ Some 0xffa
unfolding number_of
a_hex = refl

no_digits : hex_of [] ≡ None
unfolding number_of
no_digits = refl

not_hex : hex_of (codes "0x1") ≡ None
unfolding number_of
not_hex = refl

a_prefixed : prefixed_of (codes "0x401004") ≡ Some 0x401004
unfolding prefixed_of number_of
a_prefixed = refl

prefix_alone : prefixed_of (codes "0x") ≡ None
unfolding prefixed_of number_of
prefix_alone = refl

capital_prefix : prefixed_of (codes "0X1") ≡ None
unfolding prefixed_of number_of
capital_prefix = refl

a_hex_text : hex_text 0xffffffff81e00010 ≡ codes "0xffffffff81e00010"
unfolding hex_text digits
a_hex_text = refl

zeros_in_front : (prefixed_of (codes "0x00000000000000000001") ≡ Some 1) × (hex_text 1 ≡ codes "0x1") × (hex_text 0 ≡ codes "0x0") × (decimal_text 0 ≡ codes "0")
unfolding prefixed_of number_of hex_text digits
zeros_in_front = (refl, refl, refl, refl)

signed_numbers : (signed_of (codes "-0012") ≡ Some (negsuc 11)) × (signed_of (codes "7") ≡ Some (pos 7)) × (signed_of (codes "-0") ≡ Some (pos 0))
    × (signed_of (codes "--1") ≡ None) × (signed_of (codes "-") ≡ None) × (signed_of (codes "+1") ≡ None)
unfolding signed_of number_of
signed_numbers = (refl, refl, refl, refl, refl, refl)

signed_texts : (signed_text (negsuc 11) ≡ codes "-12") × (signed_text (pos 7) ≡ codes "7") × (signed_text (pos 0) ≡ codes "0")
unfolding digits
signed_texts = (refl, refl, refl)
