use Rattle.profile_tree.proofs.StatedLemmas.{one_stated}
use Rattle.profile_tree.specs.declared.key_count.KeyCount.{KeyCount}
use Rattle.profile_tree.proofs.sums.stated_of.Goals as goal

-- what a place past the end of a slice reads as
none : KeyCount
none = record { key = record { 0 = 0 }; times = 0 }

pub loop-count-preserved : goal.loop-count-preserved
unfolding none
loop-count-preserved c =
    one_stated c.args.keys c.loop-count.count-index c.args.counts.now none c.loop-count.stated.items c.loop-count-test.true
    (c.requires.given c.loop-count.count-index none c.loop-count-test.true) c.requires.once c.loop-count.invariant
