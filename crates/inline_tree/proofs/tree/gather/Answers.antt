use Rattle.std.proofs.Common.{ap, arith, refl}
use Rattle.std.specs.Prelude.{sum_by}
use Rattle.unit_model.specs.Units.{Unit}
use Rattle.entry_facts.proofs.ListLemmas.{lists_none}
use Rattle.entry_facts.proofs.MemoLemmas.{Remembers-none}
use Rattle.inline_tree.specs.Told.{source_of}
use Rattle.inline_tree.proofs.LoopLemmas.{UnitsSoFar-end, UnitsSoFar-more, UnitsSoFar-start, UnitsSoFar-stop}
use Rattle.inline_tree.proofs.tree.gather.Goals as goal

pub loop-number-init : goal.loop-number-init
loop-number-init c = (
  UnitsSoFar-start (source_of c.args.source.now) c.units-units.result.now _ _ c.in_ok-all.ensures.names c.in_ok-all.ensures.members,
  Remembers-none _ _ _ _ c.in_ok-all.ensures.origins,
  lists_none _ _ _ c.in_ok-all.ensures.lists,
)

pub returns-in_err-next_unit-clause-judged : goal.returns-in_err-next_unit-clause-judged
returns-in_err-next_unit-clause-judged c =
    UnitsSoFar-stop (source_of c.args.source.now) _ c.units-units.result.now _ _ c.next_unit.new.all.names _ c.next_unit.new.all.members _ _ _ _ c.units-units.ensures.units c.loop-number.invariant.0 c.loop-number-test.true
    c.index-units-number.is c.in_err-next_unit.ensures.read c.from_residual-in_err-next_unit.ensures.1

pub returns-clause-judged : goal.returns-clause-judged
returns-clause-judged c =
    UnitsSoFar-end (source_of c.args.source.now) _ c.units-units.result.now _ _ _ _ c.units-units.ensures.units c.loop-number.invariant.0 c.loop-number-test.false refl

pub returns-clause-few_names : goal.returns-clause-few_names
returns-clause-few_names c =
    omega (arith, c.loop-number.invariant.0.few_names, ap (λ us. sum_by (λ (u : Unit). u.count) us) c.units-units.ensures.units, c.units-units.ensures.kept.shared)

pub loop-number-preserved : goal.loop-number-preserved
loop-number-preserved c = (
  UnitsSoFar-more (source_of c.args.source.now) _ c.units-units.result.now _ _ _ _ _ _ c.loop-number.invariant.0 c.loop-number-test.true c.index-units-number.is c.in_ok-next_unit.ensures.read
      c.in_ok-next_unit.ensures.names c.in_ok-next_unit.ensures.few,
  c.in_ok-next_unit.ensures.known,
  c.in_ok-next_unit.ensures.lists,
)
