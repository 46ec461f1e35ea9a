use Rattle.std.proofs.Common.{sym, ◌∙◌}
use Rattle.profile_text.proofs.TextLemmas.{left_passed, left_stopped, left_taken}
use Rattle.profile_text.proofs.reading.take_in.Goals as goal

pub returns-then-is_passed : goal.returns-then-is_passed
returns-then-is_passed c = λ whole rest left.
    left_passed c.args.file whole c.args.names.now c.args.keys.now c.args.draft.now c.args.line rest left (sym c.is_passed.ensures ∙ c.if-is_passed.true)

pub returns-in-Ok : goal.returns-in-Ok
returns-in-Ok c = λ whole rest left.
    left_taken c.args.file whole c.args.names.now c.args.keys.now c.args.draft.now c.args.line rest c.take_line.new.names c.take_line.new.keys c.take_line.new.draft
    left (sym c.is_passed.ensures ∙ c.if-is_passed.false) c.in-Ok.ensures

pub returns-in-Err : goal.returns-in-Err
returns-in-Err c = λ whole rest left.
    left_stopped c.args.file whole c.args.names.now c.args.keys.now c.args.draft.now c.args.line rest c.in-Err.stop _ c.take_line.new.names c.take_line.new.keys c.take_line.new.draft
    left (sym c.is_passed.ensures ∙ c.if-is_passed.false) c.in-Err.ensures c.on_line.ensures
