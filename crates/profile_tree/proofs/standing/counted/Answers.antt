use Rattle.std.proofs.Common.{◌+◌, ap, subst, sym}
use Rattle.std.proofs.lemmas.Bool.{le-ltb, lt-ltb}
use Rattle.profile_tree.proofs.StandingLemmas.{counted_none, counted_one, root_given}
use Rattle.profile_tree.specs.Items.{AreMarked}
use Rattle.profile_tree.specs.Standing.{counted_below, root_of_given}
use Rattle.profile_tree.proofs.standing.counted.Goals as goal
use Rattle.profile_tree.proofs.standing.counted.Goals.{then-counts-id-gt0, else-counts-id-gt0}

pub loop-id-preserved : goal.loop-id-preserved
loop-id-preserved c =
    let keys = c.args.keys.now in
    let counts = c.args.counts.now in
    let i = c.loop-id.id in
    let marked = AreMarked c.args.names (counted_below keys counts (i + 1)) in
    elim c.if-counts-id-gt0.branch as (λ _. marked c.if-counts-id-gt0.marks.items) [
      | then-counts-id-gt0 w ↦
          let key = w.get.result.now in
          let low = root_given c.args.names keys c.requires.roots i key w.get.ensures in
          subst (λ v. marked v.items) (sym w.marks-is)
          (subst marked (sym w.mark.ensures)
          (counted_one c.args.names i key.root.0 keys counts c.loop-id.marks.items (ap root_of_given w.get.ensures) low
          (lt-ltb 0 _ w.if-counts-id-gt0.true) c.loop-id.invariant))
      | else-counts-id-gt0 w ↦
          subst (λ v. marked v.items) (sym w.marks-is)
          (counted_none c.args.names i keys counts c.loop-id.marks.items (le-ltb 0 _ w.if-counts-id-gt0.false) c.loop-id.invariant)
    ]
