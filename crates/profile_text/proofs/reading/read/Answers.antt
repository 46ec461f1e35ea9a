use Rattle.std.proofs.Common.{subst}
use Rattle.std.proofs.lemmas.Result.{err_from_is_err_and}
use Rattle.profile_text.proofs.TextLemmas.{all_left, none_left, stopped}
use Rattle.profile_text.specs.Text.{IsLeft, whole_of}
use Rattle.profile_text.proofs.reading.read.Goals as goal

pub loop-line-init : goal.loop-line-init
loop-line-init c =
    rw c.reserve.ensures
    (all_left c.args.file c.args.text.now c.args.names.now c.args.keys.now c.in_ok-draft.draft c.new-lines.result c.in_ok-draft.ensures c.new-lines.ensures c.requires.key_names)

pub returns-in_err-take_in : goal.returns-in_err-take_in
returns-in_err-take_in c =
    let p = err_from_is_err_and c.from_residual-in_err-take_in.result c.from_residual-in_err-take_in.ensures.1 in
    let whole = whole_of c.args.file c.args.text.now c.args.names.now c.args.keys.now in
    let left = subst (IsLeft c.args.file whole c.loop-line.names c.loop-line.keys c.loop-line.draft) c.in-Some.ensures.steps c.loop-line.invariant in
    rw (p.1, p.2)
    (stopped c.args.file whole c.next.new.self c.in_err-take_in.field-0.0 c.take_in.new.names c.take_in.new.keys c.take_in.new.draft _
    (c.in_err-take_in.ensures whole c.next.new.self left))

pub returns : goal.returns
returns c =
    none_left c.args.file c.args.text.now c.args.names.now c.loop-line.names c.args.keys.now c.loop-line.keys c.loop-line.draft c.loop-line.lines c.close.result.items
    c.loop-line.invariant c.in_default.ensures.steps.0 c.close.ensures
