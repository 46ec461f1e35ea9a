use Rattle.std.proofs.Common.{◌≡◌, ◌≤◌, ℕ, List, length, nat_le, None, subst, sym, arith}
use Rattle.std.specs.Prelude.{if◌then◌else◌}
use Rattle.text_model.specs.Numbers.{hex_of}
use Rattle.command_model.specs.Command.{address_of}
use Rattle.command_words.proofs.CommandLemmas.{no_address, none_if}
use Rattle.command_words.proofs.command.address_of.Goals as goal

pub returns-in-Err : goal.returns-in-Err
unfolding address_of
returns-in-Err c =
    let short : length c.digits_of-digits.result.now ≤ 16 = omega (arith, c.if-digits-gt-MAX_DIGITS.false) in
    let none = no_address c.digits_of-digits.result.now c.in-Err.field-0 short (sym c.in-Err.ensures) in
    subst (λ (digits : List ℕ). None ≡ (if nat_le (length digits) 16 then hex_of digits else None)) c.digits_of-digits.ensures
    (none_if (nat_le (length c.digits_of-digits.result.now) 16) (hex_of c.digits_of-digits.result.now) none)
