-- How a number of one digit is written.
use Rattle.std.proofs.Common.{◌≡◌, ℕ, ◌<◌, ◌+◌, ◌/◌, ◌%◌, [], ◌∷◌, arith}
use Rattle.std.specs.Fmt.{digits}
use Rattle.std.proofs.lemmas.Bool.{lt-ltb}
use Rattle.text_model.specs.Numbers.{decimal_text}

pub one_digit : (n : ℕ) → n < 10 → decimal_text n ≡ (48 + n) ∷ []
unfolding digits
one_digit n small =
    let none : n / 10 ≡ 0 = omega (arith, small) in
    let same : n % 10 ≡ n = omega (arith, small) in
    rw (none, same, lt-ltb n 10 small)
