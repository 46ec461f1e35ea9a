use Rattle.std.proofs.Common.{◌+◌, ap, ◌∙◌, sym, subst, List, arith}
use Rattle.std.specs.Option.{option_or}
use Rattle.address_spans.specs.declared.span.Span.{Span}
use Rattle.address_spans.specs.Spans.{framed_owner, owner_at}
use Rattle.span_cover.specs.Levels.{IsLevel, LevelSoFar}
use Rattle.span_cover.specs.Owners.{owned}
use Rattle.span_cover.proofs.CoverLemmas.{level-takes, level-passes, level-ends, next-some}
use Rattle.span_cover.proofs.level.+cover_level.Goals as goal
use Rattle.span_cover.proofs.level.+cover_level.Goals.{then-depth_of-depth+in_ok-push_cover, else-depth_of-depth}

pub loop-member-preserved : goal.loop-member-preserved
loop-member-preserved t c =
    let m = c.in-Some.member.now in
    let next = next-some c.args.members.now c.loop-member.at c.args.depth m c.in-Some.ensures in
    let below = subst (λ d. IsLevel c.args.members.now (c.loop-member.at + 1) (d + 1) c.in_ok-inner.inner.spans.items c.in_ok-inner.inner.end) c.depth_of.ensures.depth c.in_ok-inner.ensures in
    elim c.if-depth_of-depth.branch [
      | then-depth_of-depth+in_ok-push_cover w ↦
          subst (λ (spans : List Span). LevelSoFar c.args.members.now c.args.first c.args.depth spans c.in_ok-inner.inner.end)
          (sym (ap (λ (spans : _). spans.items) w.spans-is))
          (level-takes c.args.members.now c.args.first c.args.depth c.loop-member.at c.loop-member.spans.items w.push_cover.new.spans.items c.in_ok-inner.inner.spans.items m c.in_ok-inner.inner.end
          c.loop-member.invariant next.0 next.1 (sym c.depth_of-in-Some.ensures.depth ∙ w.if-depth_of-depth.true) below
          (λ a. w.in_ok-push_cover.ensures a ∙ ap (λ (inner : List Span). option_or (owner_at c.loop-member.spans.items a) (framed_owner (owned a c.loop-member.at m) (owner_at inner a))) w.deref.ensures.value))
      | else-depth_of-depth w ↦
          subst (λ (spans : List Span). LevelSoFar c.args.members.now c.args.first c.args.depth spans c.in_ok-inner.inner.end)
          (sym (ap (λ (spans : _). spans.items) w.spans-is))
          (level-passes c.args.members.now c.args.first c.args.depth c.loop-member.at c.loop-member.spans.items c.in_ok-inner.inner.spans.items m c.in_ok-inner.inner.end
          c.loop-member.invariant next.0 next.1
          (omega (arith, c.depth_of-in-Some.ensures.depth, next.2, w.if-depth_of-depth.false)) below)
    ]

pub cover_level-requires : goal.cover_level-requires
cover_level-requires t c =
    let next = next-some c.args.members.now c.loop-member.at c.args.depth c.in-Some.member.now c.in-Some.ensures in
    omega (arith, next.0)

pub returns : goal.returns
returns t c =
    level-ends c.args.members.now c.args.first c.args.depth c.loop-member.at c.loop-member.spans.items c.in_ok-disjoint.field-0.items
    c.loop-member.invariant c.in_default.ensures c.in_ok-disjoint.ensures.disjoint
    (λ a. c.in_ok-disjoint.ensures.same a ∙ ap (λ (spans : List Span). owner_at spans a) c.deref-2.ensures.value)
