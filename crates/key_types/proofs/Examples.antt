-- The definitions on worked values.
use Rattle.std.proofs.Common.{◌≡◌, refl}
use Rattle.key_types.specs.Discriminators.{split}
use Rattle.key_types.specs.SplitLaws.{packed}

no_number : split 0 ≡ (0, 1)
unfolding split
no_number = refl

zero_alone : split 1 ≡ (0, 1)
unfolding split
zero_alone = refl

a_base : split 2 ≡ (1, 1)
unfolding split
a_base = refl

a_factor : split 17 ≡ (0, 4)
unfolding split
a_factor = refl

a_long_base : split 192 ≡ (32, 1)
unfolding split
a_long_base = refl

both : split 772 ≡ (2, 3)
unfolding split
both = refl

packed_numbers : (packed 0 0 ≡ 0) × (packed 1 0 ≡ 2) × (packed 0 4 ≡ 17) × (packed 32 0 ≡ 192) × (packed 2 3 ≡ 772)
packed_numbers = (refl, refl, refl, refl, refl)
