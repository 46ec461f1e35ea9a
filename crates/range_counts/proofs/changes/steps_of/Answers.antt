use Rattle.std.proofs.Common.{add-one, arith, ap, sym, ◌∙◌, ltb-true, ltb-false}
use Rattle.range_counts.specs.declared.changes.Change.{Change}
use Rattle.range_counts.proofs.SweepLemmas.{StepsSoFar-none, StepsSoFar-last, StepsSoFar-more, StepsSoFar-all, sum_fits, ended_fits}
use Rattle.range_counts.proofs.changes.steps_of.Goals as goal
use Rattle.range_counts.proofs.changes.steps_of.Goals.{then-is_last_at_its_address+in_ok-push, else-is_last_at_its_address}

-- what a place past the end of a slice reads as
none : Change
none = record { at = 0; begun = 0; ended = 0 }

pub loop-i-init : goal.loop-i-init
loop-i-init c = StepsSoFar-none _ _ c.requires.rise c.new-steps.ensures.items

pub overflow_add-begun : goal.overflow_add-begun
unfolding none
overflow_add-begun c =
    omega (arith, sum_fits (λ change. change.begun) _ _ _ none c.requires.sound.begun_fits c.loop-i.invariant.begun_is c.loop-i-test.true)

pub overflow_add-ended : goal.overflow_add-ended
unfolding none
overflow_add-ended c =
    omega (arith, sum_fits (λ change. change.ended) _ _ _ none c.requires.sound.ended_fits c.loop-i.invariant.ended_is c.loop-i-test.true)

pub overflow_sub-begun : goal.overflow_sub-begun
unfolding none
overflow_sub-begun c =
    let last = ltb-true _ _ (sym c.is_last_at_its_address.ensures.last ∙ c.if-is_last_at_its_address.true) in
    ended_fits _ _ _ _ _ none c.requires.rise c.requires.sound c.loop-i.invariant c.loop-i-test.true c.is_last_at_its_address.ensures.inside last

pub loop-i-preserved : goal.loop-i-preserved
unfolding none
loop-i-preserved c = elim c.if-is_last_at_its_address.branch [
  | then-is_last_at_its_address+in_ok-push w ↦
      let last = ltb-true _ _ (sym c.is_last_at_its_address.ensures.last ∙ w.if-is_last_at_its_address.true) in
      let steps = ap (λ v. v.items) w.steps-is ∙ w.in_ok-push.ensures.items in
      rw (add-one, steps)
      (StepsSoFar-last _ _ _ _ _ none c.requires.rise c.requires.sound c.loop-i.invariant c.loop-i-test.true last)
  | else-is_last_at_its_address w ↦
      let others = ltb-false _ _ (sym c.is_last_at_its_address.ensures.last ∙ w.if-is_last_at_its_address.false) in
      rw (add-one, ap (λ v. v.items) w.steps-is)
      (StepsSoFar-more _ _ _ _ _ none c.requires.rise c.loop-i.invariant c.loop-i-test.true c.is_last_at_its_address.ensures.inside others)
]

pub returns-clause-ascend : goal.returns-clause-ascend
returns-clause-ascend c = (StepsSoFar-all _ _ _ _ _ c.loop-i.invariant c.loop-i-test.false).0

pub returns-clause-hits : goal.returns-clause-hits
returns-clause-hits c = (StepsSoFar-all _ _ _ _ _ c.loop-i.invariant c.loop-i-test.false).1
