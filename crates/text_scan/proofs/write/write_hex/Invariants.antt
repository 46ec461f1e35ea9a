-- The digits that are left come before those that stand already.
use Rattle.std.proofs.Common.{◌≡◌, ◌-◌, ◌≤◌, drop, length, []}
use Rattle.text_model.proofs.DigitLemmas.{hex_onto}
use Rattle.text_scan.proofs.write.write_hex.Given as goal

abbrev pub invariant-loop-start : goal.invariant-loop-start
invariant-loop-start l =
    record {
      low : 2 ≤ l.start;
      high : l.start ≤ 18;
      length : length l.text ≡ 18;
      written : hex_onto (l.start - 2) l.left (drop l.start l.text) ≡ hex_onto 16 l.n [];
    }

abbrev pub decreases-loop-start : goal.decreases-loop-start
decreases-loop-start l = l.start
