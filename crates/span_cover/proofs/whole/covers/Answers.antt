use Rattle.std.proofs.Common.{◌+◌, ap, sym, subst, List, arith}
use Rattle.std.proofs.lemmas.List.FromFn.{length-enumerate_from}
use Rattle.address_spans.specs.declared.span.Span.{Span}
use Rattle.span_cover.proofs.AskedLemmas.{CoversSoFar, covers-all, covers-pass, covers-take}
use Rattle.span_cover.proofs.whole.covers.Goals as goal
use Rattle.span_cover.proofs.whole.covers.Goals.{then-member-eq0+in_ok-push_function, else-member-eq0}

pub loop-number-preserved : goal.loop-number-preserved
loop-number-preserved c =
    let m = c.index-members-number.result in
    let Goal : List Span → Type 0 = λ spans. CoversSoFar c.args.marks.now c.args.members.now spans (c.loop-number.number + 1) in
    elim c.if-member-eq0.branch [
      | then-member-eq0+in_ok-push_function w ↦
          subst Goal (sym (ap (λ (spans : _). spans.items) w.spans-is))
          (covers-take c.args.marks.now c.args.members.now c.loop-number.number m c.loop-number.spans.items w.push_function.new.spans.items c.loop-number-test.true c.index-members-number.is
          w.if-member-eq0.true c.loop-number.invariant w.in_ok-push_function.ensures)
      | else-member-eq0 w ↦
          subst Goal (sym (ap (λ (spans : _). spans.items) w.spans-is))
          (covers-pass c.args.marks.now c.args.members.now c.loop-number.number m c.loop-number.spans.items c.loop-number-test.true c.index-members-number.is w.if-member-eq0.false c.loop-number.invariant)
    ]

pub returns : goal.returns
returns c =
    covers-all c.args.marks.now c.args.members.now c.loop-number.spans.items c.loop-number.number
    (omega (arith, c.loop-number-test.false, length-enumerate_from 0 c.args.members.now)) c.loop-number.invariant
