use Rattle.std.proofs.Common.{lit<}
use Rattle.placed_view.proofs.ReadLemmas.{field-ok, field-err, field-shorter}
use Rattle.placed_view.proofs.read.field_u32.Goals as goal

pub returns-in-Ok-clause-read : goal.returns-in-Ok-clause-read
returns-in-Ok-clause-read c = field-ok 4 _ _ _ c.in-Ok.ensures.found c.in-Ok.ensures.exact

pub returns-in-Ok-clause-shorter : goal.returns-in-Ok-clause-shorter
returns-in-Ok-clause-shorter c = field-shorter 4 _ _ _ c.in-Ok.ensures.found (lit< tt)

pub returns-in-Err-clause-read : goal.returns-in-Err-clause-read
returns-in-Err-clause-read c = rw (c.place_of.ensures, c.at-at.ensures.place) (field-err 4 _ _ c.in-Err.ensures.exact)
