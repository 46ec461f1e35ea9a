use Rattle.std.proofs.Common.{arith}
use Rattle.std.proofs.lemmas.Int.{to_z-of_z}
use Rattle.placed_view.proofs.ReadLemmas.{sleb-ok, sleb-err, sleb-shorter}
use Rattle.placed_view.proofs.read.sleb.Goals as goal

pub returns-in-Ok-clause-read : goal.returns-in-Ok-clause-read
returns-in-Ok-clause-read c =
    let e = sleb-ok _ _ _ c.in-Ok.ensures.found c.in-Ok.ensures.exact in grind (arith, to_z-of_z)

pub returns-in-Ok-clause-shorter : goal.returns-in-Ok-clause-shorter
returns-in-Ok-clause-shorter c = sleb-shorter _ _ _ c.in-Ok.ensures.found

pub returns-in-Err-clause-read : goal.returns-in-Err-clause-read
returns-in-Err-clause-read c = rw (c.place_of.ensures, c.at-at.ensures.place) (sleb-err _ _ c.in-Err.ensures.exact)
