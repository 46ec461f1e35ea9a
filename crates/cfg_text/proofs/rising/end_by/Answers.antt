use Rattle.std.proofs.Common.{leb-true, sym}
use Rattle.cfg_text.proofs.RisingLemmas.{ends}
use Rattle.cfg_text.proofs.rising.end_by.Goals as goal

pub returns-in-Some : goal.returns-in-Some
returns-in-Some c = λ past. ends c.args.lo 0 c.args.blocks.now c.in-Some.last.now c.requires (sym c.in-Some.ensures.value) (leb-true _ _ past)
