use Rattle.std.proofs.Common.{◌<◌, ◌^◌}
use Rattle.std.proofs.lemmas.List.Elements.{All-more}
use Rattle.profile_lists.specs.declared.pairs.Call.{Call}
use Rattle.profile_tree.proofs.fit.calls_fit.Goals as goal

-- what a place past the end of a slice reads as
none : Call
none = record { key = record { 0 = 0 }; callee = record { 0 = 0 }; times = 0 }

pub loop-call-preserved : goal.loop-call-preserved
unfolding none
loop-call-preserved c = All-more (λ call. call.times < 2 ^ 64) _ _ none c.loop-call-test.true c.loop-call.invariant c.fits.ensures
