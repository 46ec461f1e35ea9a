use Rattle.std.proofs.Common.{◌↔◌, ◌-◌, ◌^◌, ◌≤◌, drop}
use Rattle.address_spans.specs.Spans.{AreBetween, AreDisjoint}
use Rattle.address_spans.proofs.cover.are_disjoint.Given as goal

abbrev pub invariant-loop-span : goal.invariant-loop-span
invariant-loop-span l =
    (AreDisjoint l.spans ↔ AreBetween l.from (2 ^ 64 - 1) (drop l.span-index l.spans)) × (l.from ≤ 2 ^ 64 - 1)
