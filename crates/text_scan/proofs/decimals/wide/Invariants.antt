-- The digits so far spell the value, or a number that is too large.
use Rattle.std.proofs.Common.{take}
use Rattle.text_scan.proofs.DecimalLemmas.{IsReadSoFar}
use Rattle.text_scan.proofs.decimals.wide.Given as goal

abbrev pub invariant-loop-byte : goal.invariant-loop-byte
invariant-loop-byte l = IsReadSoFar 128 (take l.byte-index l.text) l.value
