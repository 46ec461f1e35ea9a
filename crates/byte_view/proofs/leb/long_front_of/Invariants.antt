use Rattle.std.proofs.Common.{◌≡◌, ◌+◌, drop}
use Rattle.std.specs.List.{prefix_len}
use Rattle.byte_view.specs.Leb.{goes_on}
use Rattle.byte_view.proofs.LebLemmas.{IsWorth}
use Rattle.byte_view.proofs.leb.long_front_of.Given as goal

-- The digits so far go on, and the value is theirs.
abbrev pub invariant-loop-i : goal.invariant-loop-i
invariant-loop-i l = record {
  worth : IsWorth l.bytes l.i l.value l.scale;
  passed : prefix_len goes_on l.bytes ≡ l.i + prefix_len goes_on (drop l.i l.bytes);
}
