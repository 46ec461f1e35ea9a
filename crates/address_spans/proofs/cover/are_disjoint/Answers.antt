use Rattle.std.proofs.Common.{◌≡◌, ◌^◌, ◌-◌, List, [], sym, subst, drop, refl}
use Rattle.std.proofs.lemmas.List.{drop_all}
use Rattle.address_spans.specs.declared.span.Span.{Span}
use Rattle.address_spans.specs.Spans.{AreBetween}
use Rattle.address_spans.proofs.cover.are_disjoint.Goals as goal

pub returns : goal.returns
returns c =
    let past : drop c.loop-span.span-index c.args.spans.now ≡ [] = drop_all c.loop-span.span-index c.args.spans.now c.loop-span-test.false in (
      λ _. c.loop-span.invariant.0.1 (subst (λ (xs : List Span). AreBetween c.loop-span.from (2 ^ 64 - 1) xs) (sym past) c.loop-span.invariant.1),
      λ _. refl,
    )
