use Rattle.std.proofs.Common.{◌^◌, ◌<◌}
use Rattle.std.proofs.lemmas.List.Elements.{All-more}
use Rattle.profile_model.specs.declared.ran_range.RanRange.{RanRange}
use Rattle.range_counts.proofs.ChangeLemmas.{changes_more}
use Rattle.range_counts.proofs.changes.changes_of.Goals as goal

-- what a place past the end of a slice reads as
none : RanRange
none = record { lo = 0; hi = 0; times = 0 }

pub loop-range-preserved : goal.loop-range-preserved
unfolding none
loop-range-preserved c = (
  changes_more _ _ none _ _ c.loop-range-test.true c.loop-range.invariant.0 c.in_ok-push_changes.ensures.pushed,
  All-more (λ range. range.hi < 2 ^ 64) _ _ none c.loop-range-test.true c.loop-range.invariant.1 c.push_changes.ensures.address,
)
