use Rattle.branch_stacks.proofs.ReaderLemmas.{judges_held_line}
use Rattle.branch_stacks.proofs.reader.Reader.end_line.Goals as goal

pub returns-clause-judged : goal.returns-clause-judged
returns-clause-judged c =
    judges_held_line c.args.self.now c.hold.new.self c.end_held_line.new.self c.args.last.now c.args.counts.now c.end_held_line.new.counts c.end_held_line.result
    c.hold.ensures c.end_held_line.ensures.judged
