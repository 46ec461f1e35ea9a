use Rattle.placed_view.proofs.ReadLemmas.{uleb-ok, uleb-err, uleb-shorter}
use Rattle.placed_view.proofs.read.uleb.Goals as goal

pub returns-in-Ok-clause-read : goal.returns-in-Ok-clause-read
returns-in-Ok-clause-read c = uleb-ok _ _ _ c.in-Ok.ensures.found c.in-Ok.ensures.exact

pub returns-in-Ok-clause-shorter : goal.returns-in-Ok-clause-shorter
returns-in-Ok-clause-shorter c = uleb-shorter _ _ _ c.in-Ok.ensures.found

pub returns-in-Err-clause-read : goal.returns-in-Err-clause-read
returns-in-Err-clause-read c = rw (c.place_of.ensures, c.at-at.ensures.place) (uleb-err _ _ c.in-Err.ensures.exact)
