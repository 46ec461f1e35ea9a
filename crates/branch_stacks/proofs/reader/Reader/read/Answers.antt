use Rattle.std.proofs.Common.{ap, ◌∙◌}
use Rattle.std.proofs.lemmas.Result.{err_from_is_err_and}
use Rattle.branch_stacks.specs.Reader.{Reading}
use Rattle.branch_stacks.proofs.FeedLemmas.{Feeds-stop, Feeds-large, Feeds-whole, part_within, judged_large, judged_small}
use Rattle.branch_stacks.proofs.reader.Reader.read.Goals as goal

pub returns-in_err-read_lines-clause-judged : goal.returns-in_err-read_lines-clause-judged
returns-in_err-read_lines-clause-judged c =
    let p = err_from_is_err_and c.from_residual.result c.from_residual.ensures.1 in
    rw (p.1, p.2) (Feeds-stop _ c.args.self.now c.read_lines.new.self c.args.counts.now c.read_lines.new.counts c.args.piece.now _ _
    (ap (λ (r : Reading). record r { size = 0 }) c.self.view_is) (part_within _ _ _ _ c.min.ensures c.room-room.ensures) c.in_err-read_lines.ensures.judged)

pub returns-in_err-refuse_if-clause-judged : goal.returns-in_err-refuse_if-clause-judged
returns-in_err-refuse_if-clause-judged c =
    let p = err_from_is_err_and c.from_residual-in_err-refuse_if.result c.from_residual-in_err-refuse_if.ensures.1 in
    rw (p.1, p.2) (Feeds-large _ c.args.self.now c.read_lines.new.self c.args.counts.now c.read_lines.new.counts c.args.piece.now _ _
    (ap (λ (r : Reading). record r { size = 0 }) c.self.view_is) (part_within _ _ _ _ c.min.ensures c.room-room.ensures) c.in_ok-read_lines.ensures.judged
    (c.in_ok-read_lines.ensures.goes_on.1 ∙ ap (λ (r : Reading). r.loading) c.self.view_is)
    (judged_large _ _ _ _ _ _ c.room-room.ensures (ap (λ (r : Reading). r.file) c.self.view_is) c.in_err-refuse_if.ensures))

pub returns-clause-judged : goal.returns-clause-judged
returns-clause-judged c =
    Feeds-whole _ c.args.self.now c.read_lines.new.self c.args.counts.now c.read_lines.new.counts c.args.piece.now _
    (ap (λ (r : Reading). record r { size = 0 }) c.self.view_is) (part_within _ _ _ _ c.min.ensures c.room-room.ensures) c.in_ok-read_lines.ensures.judged
    (judged_small _ _ _ _ c.room-room.ensures c.in_ok-refuse_if.ensures.0)
