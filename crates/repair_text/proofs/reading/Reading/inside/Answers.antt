use Rattle.std.proofs.Common.{ap, sym, ◌∙◌, Some, refl}
use Rattle.repair_text.proofs.ReadingLemmas.{bad_inside, no_line_inside, closes, goes_on, ends_flow_told, no_end}
use Rattle.repair_text.proofs.reading.Reading.inside.Goals as goal

pub returns-in_default : goal.returns-in_default
returns-in_default c = no_line_inside c.args.file c.args.line c.args.self c.args.opened c.in_default.ensures ∙ ap Some (sym c.on_line.ensures)

pub returns-in-Some-cause_of : goal.returns-in-Some-cause_of
returns-in-Some-cause_of c =
    bad_inside c.args.file c.args.line c.args.self c.args.opened _ _ c.in-Some.ensures (sym c.in-Some-cause_of.ensures)
    ∙ ap Some (sym c.on_line-in-Some-cause_of.ensures)

pub returns-in_ok-keep-in-EndOfFlow : goal.returns-in_ok-keep-in-EndOfFlow
returns-in_ok-keep-in-EndOfFlow c =
    closes c.args.line c.args.self c.in_ok-keep-in-EndOfFlow.field-0 c.args.opened _ c.close.result c.requires
    (rw c.in-EndOfFlow.is at c.in-Some.ensures) (rw c.in-EndOfFlow.is at (sym c.in_default-cause_of.ensures)) refl
    (c.close.ensures.told ∙ ends_flow_told c.args.opened.told c.in-EndOfFlow.cost) c.close.ensures.line c.in_ok-keep-in-EndOfFlow.ensures

pub returns-in_ok-keep-in-EndOfCut : goal.returns-in_ok-keep-in-EndOfCut
returns-in_ok-keep-in-EndOfCut c =
    closes c.args.line c.args.self c.in_ok-keep-in-EndOfCut.field-0 c.args.opened _ c.close-in-EndOfCut.result c.requires
    (rw c.in-EndOfCut.is at c.in-Some.ensures) (rw c.in-EndOfCut.is at (sym c.in_default-cause_of.ensures)) refl
    c.close-in-EndOfCut.ensures.told c.close-in-EndOfCut.ensures.line c.in_ok-keep-in-EndOfCut.ensures

pub returns-in_ok-add-in_default-said : goal.returns-in_ok-add-in_default-said
returns-in_ok-add-in_default-said c =
    let ends = no_end c.in-Some.said c.in_default-said.not-EndOfFlow c.in_default-said.not-EndOfCut in
    rw c.with_open.ensures
    (goes_on c.args.line c.args.self c.args.opened c.add.new.self _ c.in-Some.ensures
    (sym c.in_default-cause_of.ensures) ends c.in_ok-add-in_default-said.ensures)
