use Rattle.std.proofs.Common.{◌∙◌, List, subst, sym}
use Rattle.std.proofs.lemmas.Result.{IfOk-weaker}
use Rattle.address_spans.specs.declared.span.Span.{Span}
use Rattle.address_spans.specs.Spans.{AreDisjoint}
use Rattle.address_spans.proofs.FrameLemmas.{framed-disjoint, framed-owners, held_in-between}
use Rattle.address_spans.proofs.frames.framed.Goals as goal

pub overlay-requires-clause-above : goal.overlay-requires-clause-above
overlay-requires-clause-above c =
    subst (λ (xs : List Span). AreDisjoint xs) (sym (c.deref.ensures.value ∙ c.in_ok-held.ensures)) (held_in-between 0 _ _ c.requires.frames c.requires.inner)

pub returns-clause-disjoint : goal.returns-clause-disjoint
returns-clause-disjoint c =
    IfOk-weaker c.overlay.result _ _
    (λ made is. framed-disjoint c.args.frames.now c.args.inner.now c.deref.result.now made.items c.requires.frames c.requires.inner (c.deref.ensures.value ∙ c.in_ok-held.ensures) is) c.overlay.ensures

pub returns-clause-owners : goal.returns-clause-owners
returns-clause-owners c =
    IfOk-weaker c.overlay.result _ _
    (λ made is address. framed-owners c.args.frames.now c.args.inner.now c.deref.result.now made.items address c.requires.frames c.requires.inner (c.deref.ensures.value ∙ c.in_ok-held.ensures) is) c.overlay.ensures
