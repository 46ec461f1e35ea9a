use Rattle.std.proofs.Common.{subst}
use Rattle.binary_places.specs.Binary.{IsPlaced}
use Rattle.binary_places.proofs.ReadLemmas.{lacks}
use Rattle.cold_maker.proofs.maker.cold.Goals as goal

pub returns-in_err-placed : goal.returns-in_err-placed
returns-in_err-placed c = λ bytes base is. lacks _ _ c.from_residual.result c.from_residual.ensures.1

pub cold_of-requires-clause-placed : goal.cold_of-requires-clause-placed
cold_of-requires-clause-placed c =
    let is = c.requires.binary in
    let placed = c.in_ok-placed.placed in
    (is.0, is.1, subst (λ marks. IsPlaced is.0 is.1 marks placed) c.all-asked.ensures (c.in_ok-placed.ensures is.0 is.1 is.2))

pub returns : goal.returns
returns c = λ bytes base is.
    c.cold_of.ensures bytes base (subst (λ marks. IsPlaced bytes base marks c.in_ok-placed.placed) c.all-asked.ensures (c.in_ok-placed.ensures bytes base is))
