use Rattle.std.proofs.Common.{◌≡◌, ◌-◌, ◌^◌, ◌++◌, drop}
use Rattle.address_spans.specs.Overlay.{overlaid}
use Rattle.address_spans.specs.Spans.{AreBetween, AreDisjoint}
use Rattle.address_spans.proofs.overlay.overlay.Given as goal

abbrev pub invariant-loop-span : goal.invariant-loop-span
invariant-loop-span l =
    AreDisjoint l.left
    × AreBetween l.from (2 ^ 64 - 1) (drop l.span-index l.above)
    × (l.out.items ++ overlaid l.from (drop l.span-index l.above) l.left ≡ overlaid 0 l.above l.below)
