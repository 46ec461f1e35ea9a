use Rattle.std.proofs.Common.{ap, arith, subst}
use Rattle.profile_model.specs.Hits.{IsLargestIn}
use Rattle.profile_model.specs.Steps.{hits_by}
use Rattle.range_counts.specs.Walked.{Walked}
use Rattle.range_counts.proofs.WalkLemmas.{passed-last, last-passed}
use Rattle.range_counts.proofs.walk.Walk.max_in.Goals as goal

pub first_above_from-next-requires-clause-passed :
    goal.first_above_from-next-requires-clause-passed
first_above_from-next-requires-clause-passed c =
    let from = ap (λ (w : Walked). w.from) c.self.view_is in
    passed-last _ _ _ c.self.invariant.0 c.self.invariant.1 (omega (arith, from, c.requires.ascending))

pub returns-clause-largest : goal.returns-clause-largest
returns-clause-largest c =
    subst (λ (w : Walked). IsLargestIn c.args.lo c.args.hi (hits_by w.steps) c.largest_from-largest.result.0) c.self.view_is
    (c.largest_from-largest.ensures.largest c.args.lo c.requires.some c.first_above_from-next.ensures)

pub returns-clause-from : goal.returns-clause-from
returns-clause-from c =
    last-passed _ _ _ _ _ c.first_above_from-next.ensures c.requires.some c.largest_from-largest.ensures.within.1 c.largest_from-largest.ensures.passed
