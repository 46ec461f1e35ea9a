use Rattle.std.proofs.Common.{◌≡◌, ◌<◌, length, arith}
use Rattle.dwarf_info.proofs.EntryLemmas.{EntriesSoFar-end, EntriesSoFar-stop}
use Rattle.dwarf_info.proofs.entries.read_entries.Goals as goal

pub returns-in_err-depth : goal.returns-in_err-depth
returns-in_err-depth c =
    let some : 0 < length c.loop-of.cur.left = omega (arith, c.loop-of-test.true, c.left.ensures) in
    EntriesSoFar-stop _ _ _ _ _ _ _ _ _ _ c.from_residual.result c.loop-of.invariant some c.in_err-depth.ensures.read c.from_residual.ensures.1

pub returns : goal.returns
returns c =
    let none : length c.loop-of.cur.left ≡ 0 = omega (arith, c.loop-of-test.false, c.left.ensures) in
    (c.loop-of.invariant.whole, (c.loop-of.cur, EntriesSoFar-end _ _ _ _ _ _ _ c.loop-of.invariant none))
