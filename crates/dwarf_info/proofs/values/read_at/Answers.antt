use Rattle.std.proofs.Common.{arith}
use Rattle.std.proofs.lemmas.Int.{to_z-of_z}
use Rattle.dwarf_info.proofs.ValueLemmas.{value-ok, value-err}
use Rattle.dwarf_info.proofs.values.read_at.Goals as goal

pub returns-in-Ok-clause-read : goal.returns-in-Ok-clause-read
returns-in-Ok-clause-read c =
    let e = value-ok c.args.shape.wide c.attr.inside.name _ _ c.args.cur.now c.read_value.new.cur _ c.in-Ok.ensures.found c.in-Ok.ensures.exact in let v = c.attr.view_is in grind (arith, to_z-of_z)

pub returns-in-Err-clause-read : goal.returns-in-Err-clause-read
returns-in-Err-clause-read c =
    let e = value-err c.args.shape.wide c.attr.inside.name _ _ c.args.cur.now _ c.in-Err.ensures.exact in let v = c.attr.view_is in grind (arith, to_z-of_z)
