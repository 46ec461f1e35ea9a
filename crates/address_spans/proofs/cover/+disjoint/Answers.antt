use Rattle.std.proofs.Common.{sym, ap, ◌∙◌, subst, List}
use Rattle.std.proofs.lemmas.Result.{IfOk-weaker}
use Rattle.address_spans.specs.declared.span.Span.{Span}
use Rattle.address_spans.specs.Spans.{owner_at, AreDisjoint}
use Rattle.address_spans.proofs.OverlayLemmas.{overlay-disjoint, overlay-owner}
use Rattle.address_spans.proofs.cover.+disjoint.Goals as goal

pub returns-2-clause-disjoint : goal.returns-2-clause-disjoint
returns-2-clause-disjoint t c =
    let front = subst (λ (xs : List Span). AreDisjoint xs) (sym c.deref.ensures.value) c.in_ok-disjoint.ensures.disjoint in
    let back = subst (λ (xs : List Span). AreDisjoint xs) (sym c.deref-2.ensures.value) c.in_ok-disjoint-2.ensures.disjoint in
    IfOk-weaker c.overlay.result _ _ (λ made is. overlay-disjoint _ _ made.items front back is) c.overlay.ensures

pub returns-2-clause-same : goal.returns-2-clause-same
returns-2-clause-same t c =
    let front = subst (λ (xs : List Span). AreDisjoint xs) (sym c.deref.ensures.value) c.in_ok-disjoint.ensures.disjoint in
    let back = subst (λ (xs : List Span). AreDisjoint xs) (sym c.deref-2.ensures.value) c.in_ok-disjoint-2.ensures.disjoint in
    IfOk-weaker c.overlay.result _ _ (λ made is address. overlay-owner address _ _ made.items c.split_at.result.0.now c.split_at.result.1.now c.args.spans.now _ front back is
    (ap (λ xs. owner_at xs address) c.deref.ensures.value ∙ c.in_ok-disjoint.ensures.same address)
    (ap (λ xs. owner_at xs address) c.deref-2.ensures.value ∙ c.in_ok-disjoint-2.ensures.same address)
    c.split_at.ensures.front c.split_at.ensures.back) c.overlay.ensures
