use Rattle.std.proofs.Common.{rules, ◌≡◌, min, arith, inl, inr, subst}
use Rattle.std.proofs.Math.Nat.{le-min, min-le_left, min-le_right}
use Rattle.std.proofs.lemmas.Bool.{cases_lt}
use Rattle.std.proofs.lemmas.List.{get_or_default}
use Rattle.reached_sides.specs.declared.mark.Way.TheVariants.{Along}
use Rattle.path_search.specs.declared.step.Step.{Step}
use Rattle.path_search.specs.Path.{StepTakes}
use Rattle.path_search.proofs.RoomLemmas.{less_taken}
use Rattle.path_search.proofs.room.least_room.Goals as goal

-- what a read past the end gives
abbrev no_step : Step
no_step = record { arc = 0; way = Along }

pub loop-step-preserved : goal.loop-step-preserved
loop-step-preserved c = record {
  some = search rules;
  within = search rules;
  takes = λ k d below. rw c.min-least.ensures (elim (cases_lt k c.loop-step.step-index) [
    | inl earlier ↦ less_taken _ _ _ c.loop-step.least _ (min-le_left _ _) (c.loop-step.invariant.takes k d earlier)
    | inr other ↦
        let here : k ≡ c.loop-step.step-index = omega (arith, other, below) in
        let least = min c.loop-step.least c.room.result in
        rw here (subst (λ (step : Step). StepTakes c.args.arcs.now c.args.counts.now least step)
        (get_or_default c.args.path.now c.loop-step.step-index no_step d c.loop-step-test.true)
        (c.room.ensures.takes least (min-le_right c.loop-step.least c.room.result)))
  ]);
  greatest = λ amount within all.
      let before = c.loop-step.invariant.greatest amount within (λ k d below. all k d (omega (arith, below))) in
      let small = c.ranges.most.fits in
      let here = c.room.ensures.greatest amount (omega (arith, within, small)) (all c.loop-step.step-index no_step (omega arith)) in
      rw c.min-least.ensures (le-min before here);
}
