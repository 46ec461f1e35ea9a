use Rattle.std.proofs.Common.{Bool, arith, subst}
use Rattle.std.specs.Prelude.{pos}
use Rattle.std.proofs.lemmas.List.Sums.{sum_by_more_le}
use Rattle.flow_model.specs.Network.{arcs_of}
use Rattle.flow_balance.specs.Excess.{surplus_of}
use Rattle.flow_balance.specs.State.{HasMoved}
use Rattle.flow_balance.proofs.StateLemmas.{augmented, augmented_behind, found_at, later_moved, limit_near}
use Rattle.flow_balance.proofs.GoOnLemmas.{goes_on}
use Rattle.flow_balance.proofs.LevelLemmas.{all_level, come_raised, found_raised, none_moved, raised_by}
use Rattle.flow_balance.proofs.augmenting.augment_to.Goals as goal

pub level-requires-clause-near : goal.level-requires-clause-near
level-requires-clause-near c =
    let near = limit_near _ _ _ _ _ _ _ (found_at _ _ _ _ _ _ _ c.requires.state c.requires.ended) in
    let is = c.distance_to-limit.ensures in
    omega (arith, near, is)

pub trace-requires : goal.trace-requires
trace-requires c =
    let found = found_at _ _ _ _ _ _ _ c.requires.state c.requires.ended in
    let raised = raised_by _ _ _ _ _ _ _ _ _ _ found c.distance_to-limit.ensures c.level.ensures.each c.level.ensures.moved c.level.ensures.levelled in
    record { counts = c.args.counts.now; prices = c.level.new.prices; excess = c.args.excess.now; ways = (found_raised _ _ _ _ _ _ _ _ _ raised).ways }

pub move_counts-more-requires-clause-leave : goal.move_counts-more-requires-clause-leave
move_counts-more-requires-clause-leave c =
    let found = found_at _ _ _ _ _ _ _ c.requires.state c.requires.ended in
    let raised = raised_by _ _ _ _ _ _ _ _ _ _ found c.distance_to-limit.ensures c.level.ensures.each c.level.ensures.moved c.level.ensures.levelled in
    let path = c.in_ok-trace.ensures.path c.args.counts.now c.level.new.prices c.args.excess.now (found_raised _ _ _ _ _ _ _ _ _ raised).ways in
    rw c.deref-2.ensures.value path.leave

pub move_counts-more-requires-clause-apart : goal.move_counts-more-requires-clause-apart
move_counts-more-requires-clause-apart c =
    let found = found_at _ _ _ _ _ _ _ c.requires.state c.requires.ended in
    let raised = raised_by _ _ _ _ _ _ _ _ _ _ found c.distance_to-limit.ensures c.level.ensures.each c.level.ensures.moved c.level.ensures.levelled in
    let path = c.in_ok-trace.ensures.path c.args.counts.now c.level.new.prices c.args.excess.now (found_raised _ _ _ _ _ _ _ _ _ raised).ways in
    rw c.deref-2.ensures.value path.apart

pub move_counts-more-requires-clause-bounded : goal.move_counts-more-requires-clause-bounded
move_counts-more-requires-clause-bounded c = λ place.
    let part = sum_by_more_le surplus_of c.args.excess.now c.args.source (pos 0) c.requires.source in
    let bounded = c.requires.state.bounded place in
    omega (arith, part, bounded)

pub returns-clause-augmented : goal.returns-clause-augmented
returns-clause-augmented c =
    let found = found_at _ _ _ _ _ _ _ c.requires.state c.requires.ended in
    let raised = raised_by _ _ _ _ _ _ _ _ _ _ found c.distance_to-limit.ensures c.level.ensures.each c.level.ensures.moved c.level.ensures.levelled in
    let now = found_raised _ _ _ _ _ _ _ _ _ raised in
    let path = c.in_ok-trace.ensures.path c.args.counts.now c.level.new.prices c.args.excess.now now.ways in
    augmented_behind _ _ _ _ _ _ _ _ _ _ (later_moved _ _ _ _ _ _ _ _ found raised.are)
    (augmented c.args.net.now c.args.counts.now c.level.new.prices c.args.excess.now c.args.source c.args.side c.level.new.marks _ _ _ _ _
    now c.requires.source (none_moved _ _ _ _ _ _ _ _ _ raised) path (rw c.deref-2.ensures.value at c.move_counts-more.ensures))

pub returns-clause-some : goal.returns-clause-some
returns-clause-some c = λ yes. (c.can_go_on.ensures yes).1

pub returns-clause-goes_on : goal.returns-clause-goes_on
returns-clause-goes_on c = λ yes.
    let found = found_at _ _ _ _ _ _ _ c.requires.state c.requires.ended in
    let raised = raised_by _ _ _ _ _ _ _ _ _ _ found c.distance_to-limit.ensures c.level.ensures.each c.level.ensures.moved c.level.ensures.levelled in
    let now = found_raised _ _ _ _ _ _ _ _ _ raised in
    let net = c.args.net.now in
    let path = c.in_ok-trace.ensures.path c.args.counts.now c.level.new.prices c.args.excess.now now.ways in
    let can = c.can_go_on.ensures yes in
    let has = rw c.deref-2.ensures.value at c.move_counts-more.ensures in
    let has_more = subst (λ (more : Bool). HasMoved (arcs_of net) c.args.counts.now c.args.excess.now c.args.source c.args.side c.trace.new.path.items
    c.move_counts-more.new.counts c.move_counts-more.new.excess more) can.0 has in
    let one = augmented net c.args.counts.now c.level.new.prices c.args.excess.now c.args.source c.args.side c.level.new.marks _ _ _ _ _
    now c.requires.source (none_moved _ _ _ _ _ _ _ _ _ raised) path has in
    record {
      come = goes_on net c.args.counts.now c.level.new.prices c.args.excess.now c.args.source c.args.side
          (record c.args.work.now.search { marks = c.level.new.marks })
          c.trace.new.path.items c.move_counts-more.new.counts c.move_counts-more.new.excess
          now c.requires.source (come_raised _ _ _ _ _ _ _ _ _ raised c.requires.ended) (all_level _ _ _ _ _ _ _ _ _ raised)
          c.in_ok-trace.ensures has_more one;
      enough = can.3;
      gathers = can.2;
    }
