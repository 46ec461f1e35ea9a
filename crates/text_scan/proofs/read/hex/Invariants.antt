-- The digits so far spell the value, or a number that is too large.
use Rattle.std.proofs.Common.{take}
use Rattle.text_scan.proofs.ReadLemmas.{IsReadSoFar}
use Rattle.text_scan.proofs.read.hex.Given as goal

abbrev pub invariant-loop-byte : goal.invariant-loop-byte
invariant-loop-byte l = IsReadSoFar (take l.byte-index l.text) l.value l.fits
