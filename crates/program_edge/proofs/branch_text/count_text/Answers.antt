use Rattle.std.proofs.Common.{sym, ◌∙◌}
use Rattle.program_edge.proofs.BranchTextLemmas.{JudgesText-ends, JudgesText-passes}
use Rattle.program_edge.proofs.branch_text.count_text.Goals as goal

pub returns-in_err-in_file-clause-text : goal.returns-in_err-in_file-clause-text
returns-in_err-in_file-clause-text g c =
    JudgesText-ends c.args.reader.loading c.args.k _ c.feed_all.new.reader c.finish.new.self c.feed_all.new.counts c.finish.new.counts c.finish.result _ _
    c.in_ok-feed_all.ensures.text c.finish.ensures.judged (sym c.in_file.ensures ∙ c.in_err-in_file.was) c.from_residual-in_err-in_file.ensures.1

pub returns-clause-text : goal.returns-clause-text
returns-clause-text g c =
    JudgesText-passes c.args.reader.loading c.args.k _ c.feed_all.new.reader c.finish.new.self c.feed_all.new.counts c.finish.new.counts c.finish.result
    c.in_ok-feed_all.ensures.text c.finish.ensures.judged (sym c.in_file.ensures ∙ c.in_ok-in_file.was)
