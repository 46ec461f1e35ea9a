-- The definitions on worked values.
use Rattle.std.proofs.Common.{◌≡◌, [], ◌∷◌, ◌^◌, ◌-◌, Some, None, Ok, Err, refl}
use Rattle.std.specs.Prelude.{codes}
use Rattle.text_model.specs.Lines.{lines_of}
use Rattle.text_scan.specs.declared.read.NumberFault.TheVariants.{NotNumber, NumberTooLarge}
use Rattle.text_scan.specs.Lines.{numbered_lines}
use Rattle.text_scan.specs.Numbers.{within}

from_1 : numbered_lines (codes "a\n\nb") ≡ (1, codes "a") ∷ (2, []) ∷ (3, codes "b") ∷ []
unfolding lines_of
from_1 = refl

largest : within 64 (Some (2 ^ 64 - 1)) ≡ Ok (2 ^ 64 - 1)
largest = refl

past_it : within 64 (Some (2 ^ 64)) ≡ Err NumberTooLarge
past_it = refl

no_number : within 64 None ≡ Err NotNumber
no_number = refl
