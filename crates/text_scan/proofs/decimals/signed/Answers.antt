-- What stands behind the sign is read as a decimal number.
use Rattle.std.proofs.Common.{false, true}
use Rattle.text_model.specs.Numbers.{decimal_of}
use Rattle.text_model.proofs.NumberLemmas.{has_minus_is, signed_of-behind, signed_of-plain}
use Rattle.text_scan.proofs.decimals.signed.Goals as goal

pub returns-in-Some : goal.returns-in-Some
returns-in-Some c =
    let parts = c.in-Some.ensures.cases in
    rw (signed_of-behind c.args.text.now (has_minus_is c.args.text.now true parts.0), ← parts.1)
    (c.negative.ensures (decimal_of c.in-Some.digits.now) c.decimal.ensures)

pub returns-in-None : goal.returns-in-None
returns-in-None c =
    rw (signed_of-plain c.args.text.now (has_minus_is c.args.text.now false c.in-None.ensures.cases))
    (c.positive.ensures (decimal_of c.args.text.now) c.decimal-in-None.ensures)
