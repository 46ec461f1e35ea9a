-- The readings on worked bytes.
use Rattle.std.proofs.Common.{◌≡◌, ◌^◌, ◌-◌, [], ◌∷◌, negsuc, Ok, Err, refl}
use Rattle.byte_view.specs.declared.fault.ViewFault.TheVariants.{Short, LebTooLong, NoNul}
use Rattle.byte_view.specs.Reading.{field_at, text_at, uleb_at, sleb_at}

-- a digit that goes on and one that does not, and a byte behind them
two_digits : uleb_at (182 ∷ 66 ∷ 9 ∷ []) ≡ Ok (8502, 9 ∷ [])
unfolding uleb_at
two_digits = refl

two_digits_signed : sleb_at (182 ∷ 66 ∷ 9 ∷ []) ≡ Ok (negsuc 7881, 9 ∷ [])
unfolding sleb_at
two_digits_signed = refl

minus_one : sleb_at (127 ∷ []) ≡ Ok (negsuc 0, [])
unfolding sleb_at
minus_one = refl

padded_zero : uleb_at (128 ∷ 0 ∷ []) ≡ Ok (0, [])
unfolding uleb_at
padded_zero = refl

greatest : uleb_at (255 ∷ 255 ∷ 255 ∷ 255 ∷ 255 ∷ 255 ∷ 255 ∷ 255 ∷ 255 ∷ 1 ∷ []) ≡ Ok (2 ^ 64 - 1, [])
unfolding uleb_at
greatest = refl

greatest_is_not_signed : sleb_at (255 ∷ 255 ∷ 255 ∷ 255 ∷ 255 ∷ 255 ∷ 255 ∷ 255 ∷ 255 ∷ 1 ∷ []) ≡ Err LebTooLong
unfolding sleb_at
greatest_is_not_signed = refl

padded_minus_one : sleb_at (255 ∷ 255 ∷ 255 ∷ 255 ∷ 255 ∷ 255 ∷ 255 ∷ 255 ∷ 255 ∷ 127 ∷ []) ≡ Ok (negsuc 0, [])
unfolding sleb_at
padded_minus_one = refl

cut_off : uleb_at (128 ∷ 128 ∷ []) ≡ Err Short
unfolding uleb_at
cut_off = refl

ten_go_on : uleb_at (255 ∷ 255 ∷ 255 ∷ 255 ∷ 255 ∷ 255 ∷ 255 ∷ 255 ∷ 255 ∷ 255 ∷ []) ≡ Err LebTooLong
unfolding uleb_at
ten_go_on = refl

lowest_first : field_at 3 (1 ∷ 2 ∷ 3 ∷ 4 ∷ []) ≡ Ok (197121, 4 ∷ [])
unfolding field_at
lowest_first = refl

before_the_nul : text_at (104 ∷ 105 ∷ 0 ∷ 7 ∷ []) ≡ Ok (104 ∷ 105 ∷ [], 7 ∷ [])
unfolding text_at
before_the_nul = refl

no_nul : text_at (104 ∷ 105 ∷ []) ≡ Err NoNul
unfolding text_at
no_nul = refl
