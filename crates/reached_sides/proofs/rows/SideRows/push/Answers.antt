use Rattle.std.proofs.Common.{arith, ◌∙◌}
use Rattle.std.proofs.lemmas.List.{length-set}
use Rattle.reached_sides.proofs.RowLemmas.{pushed_row, kept_row, empty_kept, distances_kept}
use Rattle.reached_sides.proofs.rows.SideRows.push.Goals as goal

pub invariant_of-self : goal.invariant_of-self
invariant_of-self c =
    let old = c.self.invariant in
    let rows = c.self.inside.rows.items in
    let same = kept_row c.in-Some.row rows c.index_mut.result.now c.push.new.self
    c.index_mut.ensures.value c.in_err-push-in-Some.ensures.same in
    record {
      all = length-set rows c.in-Some.row c.push.new.self ∙ old.all;
      low = old.low;
      empty = rw same old.empty;
      fit = rw same old.fit;
    }

pub invariant_of-self-in-Some : goal.invariant_of-self-in-Some
invariant_of-self-in-Some c =
    let old = c.self.invariant in
    let rows = c.self.inside.rows.items in
    let least = c.min-self-inside.ensures in
    let fits = c.ranges.distance.fits in
    let at = c.in-Some.ensures in
    record {
      all = length-set rows c.in-Some.row c.push.new.self ∙ old.all;
      low = omega (arith, least, old.low);
      empty = empty_kept c.self.inside.low _ c.in-Some.row rows _ (omega (arith, least)) (omega (arith, least)) old.empty;
      fit = distances_kept c.self.inside.here c.in-Some.row rows _ (omega (arith, at, fits)) old.fit;
    }

pub returns-in_ok-push-in-Some-clause-added :
    goal.returns-in_ok-push-in-Some-clause-added
returns-in_ok-push-in-Some-clause-added c = λ yes.
    let all = c.self.invariant.all in
    let at = c.in-Some.ensures in
    rw (← c.self.view_is)
    (pushed_row c.self.inside.here c.args.distance c.in-Some.row c.args.side c.self.inside.rows.items
    c.index_mut.result.now c.push.new.self (omega (arith, all, at)) (omega (arith, at)) c.index_mut.ensures.value
    c.in_ok-push-in-Some.ensures.added)
