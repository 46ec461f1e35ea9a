use Rattle.std.proofs.Common.{List, get_or, subst, ◌∙◌}
use Rattle.std.proofs.lemmas.List.{take_all}
use Rattle.profile_model.specs.Hits.{IsLargestIn}
use Rattle.profile_model.specs.Steps.{hits_by}
use Rattle.key_types.specs.declared.places.Seg.{Seg}
use Rattle.profile_lists.specs.Segments.{AreCounts}
use Rattle.profile_lists.proofs.CountLemmas.{segment_step}
use Rattle.profile_lists.proofs.SmallLemmas.{small_counts}
use Rattle.profile_lists.proofs.counts.counts_of.Goals as goal

pub loop-segment-preserved : goal.loop-segment-preserved
loop-segment-preserved c =
    let d : Seg = record { lo = 0; hi = 0; key = record { 0 = 0 }; factor = 0 } in
    let segments = c.args.segments.now in
    let i = c.loop-segment.segment-index in
    let largest : IsLargestIn (get_or segments i d).lo (get_or segments i d).hi (hits_by c.args.hits.now) c.max_in-largest.result =
    subst (λ s. IsLargestIn (get_or segments i d).lo (get_or segments i d).hi (hits_by s) c.max_in-largest.result) c.loop-segment.invariant.0 c.max_in-largest.ensures.largest in (
      c.max_in-largest.ensures.steps ∙ c.loop-segment.invariant.0,
      segment_step (hits_by c.args.hits.now) segments c.args.keys i c.loop-segment.walk.from c.max_in-largest.new.self.from c.max_in-largest.result d c.loop-segment.counts.items c.raise.new.counts.items
          c.loop-segment-test.true c.loop-segment.invariant.1 largest c.max_in-largest.ensures.from c.raise.ensures,
    )

pub returns-clause-small : goal.returns-clause-small
returns-clause-small c =
    let hits = hits_by c.args.hits.now in
    let counts = c.loop-segment.counts.items in
    let all = take_all c.loop-segment.segment-index c.args.segments.now c.loop-segment-test.false in
    small_counts c.args.keys c.args.segments.now hits counts c.requires.fit c.requires.hits
    (subst (λ (segments : List Seg). AreCounts segments hits counts) all c.loop-segment.invariant.1.so_far)
