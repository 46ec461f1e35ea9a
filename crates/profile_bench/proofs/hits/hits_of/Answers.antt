use Rattle.std.proofs.Common.{◌≡◌, ap, arith}
use Rattle.std.proofs.lemmas.Result.{IfOk-weaker}
use Rattle.profile_model.proofs.HitLemmas.{hits_are_within_times}
use Rattle.profile_model.specs.Hits.{hits_at, times_of}
use Rattle.profile_model.specs.Steps.{hits_by}
use Rattle.profile_bench.proofs.hits.hits_of.Goals as goal

pub returns : goal.returns
returns c =
    let made = c.deref.result.now in
    let same : times_of made ≡ times_of c.in_ok-ranges.ranges.items = ap times_of c.deref.ensures.value in
    IfOk-weaker c.sweep.result _ _
    (λ hits is a.
    let e : hits_by hits a ≡ hits_at made a = ap (λ f. f a) is in
    omega (arith, e, same, hits_are_within_times made a, c.in_ok-ranges.ensures.times, c.ranges.ranges.fits)) c.sweep.ensures
