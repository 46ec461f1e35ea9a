use Rattle.std.proofs.Common.{ap, subst, sym, ◌∙◌, Some}
use Rattle.repair_text.specs.Reading.{HasFirst}
use Rattle.repair_text.proofs.ReadingLemmas.{passes, bad_first, begins_here}
use Rattle.repair_text.proofs.reading.Reading.outside.Goals as goal

pub returns-then-not-starts_with : goal.returns-then-not-starts_with
returns-then-not-starts_with c = passes c.args.line c.args.self c.requires (sym c.starts_with.ensures.value ∙ c.if-not-starts_with.true)

pub returns-in_default : goal.returns-in_default
returns-in_default c =
    bad_first c.args.file c.args.line c.args.self c.requires (sym c.starts_with.ensures.value ∙ c.if-not-starts_with.false) c.in_default.ensures ∙ ap Some (sym c.on_line.ensures)

pub returns : goal.returns
returns c =
    let first = subst (HasFirst c.args.line.bytes.now c.in-Some.name.now) (sym c.in_ok-told.ensures) c.in-Some.ensures in
    begins_here c.args.file c.args.line c.args.self _ c.in_ok-told.told c.begin.result c.requires
    (sym c.starts_with.ensures.value ∙ c.if-not-starts_with.false) first c.begin.ensures
