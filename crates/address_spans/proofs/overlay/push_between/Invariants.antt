use Rattle.std.proofs.Common.{◌≡◌, ◌≤◌, ◌++◌, take}
use Rattle.std.specs.List.{AllByRecursion}
use Rattle.address_spans.specs.Overlay.{clipped_all}
use Rattle.address_spans.proofs.overlay.push_between.Given as goal

abbrev pub invariant-loop-i : goal.invariant-loop-i
invariant-loop-i l =
    (l.out.items ≡ l.initial.out.items ++ clipped_all l.from l.to (take l.i l.spans))
    × AllByRecursion (λ span. span.hi ≤ l.to) (take l.i l.spans)
