-- What stands behind the prefix is read as a hexadecimal number.
use Rattle.std.proofs.Common.{false, true}
use Rattle.text_model.proofs.NumberLemmas.{has_prefix_is, prefixed_of-behind, prefixed_of-none}
use Rattle.text_scan.proofs.ReadLemmas.{within_none}
use Rattle.text_scan.proofs.read.prefixed.Goals as goal

pub returns-in-Some : goal.returns-in-Some
returns-in-Some c =
    let parts = c.in-Some.ensures.cases in
    rw (prefixed_of-behind c.args.text.now (has_prefix_is c.args.text.now true parts.0), ← parts.1) c.hex.ensures

pub returns-in-None : goal.returns-in-None
returns-in-None c =
    within_none _ (prefixed_of-none c.args.text.now (has_prefix_is c.args.text.now false c.in-None.ensures.cases))
