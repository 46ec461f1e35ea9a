use Rattle.std.proofs.Common.{◌<◌, ◌^◌}
use Rattle.std.proofs.lemmas.List.Elements.{All-more}
use Rattle.profile_tree.specs.declared.head.Head.{Head}
use Rattle.profile_tree.proofs.fit.heads_fit.Goals as goal

-- what a place past the end of a slice reads as
none : Head
none = record { name = record { 0 = 0 }; times = 0 }

pub loop-head-preserved : goal.loop-head-preserved
unfolding none
loop-head-preserved c = All-more (λ head. head.times < 2 ^ 64) _ _ none c.loop-head-test.true c.loop-head.invariant c.fits.ensures
