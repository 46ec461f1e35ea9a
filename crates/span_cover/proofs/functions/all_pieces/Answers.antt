use Rattle.std.proofs.Common.{◌≡◌, ◌+◌, ℕ, ap, ◌∙◌, sym, subst, List, take}
use Rattle.address_spans.specs.declared.span.Span.{Span}
use Rattle.address_spans.specs.Spans.{owner_at}
use Rattle.chain_model.specs.Chains.{function_at}
use Rattle.span_cover.proofs.CoverLemmas.{functions-take, functions-pass}
use Rattle.span_cover.proofs.functions.all_pieces.Goals as goal
use Rattle.span_cover.proofs.functions.all_pieces.Goals.{then-member-eq0+in_ok-push_pieces, else-member-eq0}

pub loop-number-preserved : goal.loop-number-preserved
loop-number-preserved c =
    let m = c.index-members-number.result in
    elim c.if-member-eq0.branch [
      | then-member-eq0+in_ok-push_pieces w ↦
          functions-take c.args.members.now c.loop-number.number m c.loop-number.spans.items c.if-member-eq0.spans.items c.loop-number-test.true c.index-members-number.is
          w.if-member-eq0.true c.loop-number.invariant (ap (λ (spans : _). spans.items) w.spans-is ∙ w.in_ok-push_pieces.ensures)
      | else-member-eq0 w ↦
          let Goal : List Span → Type 0 = λ spans. (a : ℕ) → owner_at spans a ≡ function_at (take (c.loop-number.number + 1) c.args.members.now) a in
          subst Goal (sym (ap (λ (spans : _). spans.items) w.spans-is))
          (functions-pass c.args.members.now c.loop-number.number m c.loop-number.spans.items c.loop-number-test.true c.index-members-number.is w.if-member-eq0.false c.loop-number.invariant)
    ]
