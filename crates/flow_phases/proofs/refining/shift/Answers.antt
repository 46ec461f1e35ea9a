use Rattle.std.proofs.Common.{arith}
use Rattle.flow_phases.proofs.RightLemmas.{shifted_down, shifted_up}
use Rattle.flow_phases.proofs.refining.shift.Goals as goal

pub returns-then-count-old_count : goal.returns-then-count-old_count
returns-then-count-old_count c =
    let less = c.if-count-old_count.true in
    rw c.transfer.ensures
    (shifted_down c.args.excess.now c.args.tail c.args.head c.args.old_count c.args.count c.requires.starts c.requires.leads (omega (arith, less))
    c.requires.less c.requires.even)

pub returns-else-count-old_count : goal.returns-else-count-old_count
returns-else-count-old_count c =
    rw c.transfer-else-count-old_count.ensures
    (shifted_up c.args.excess.now c.args.tail c.args.head c.args.old_count c.args.count c.requires.starts c.requires.leads c.if-count-old_count.false
    c.requires.more c.requires.even)
