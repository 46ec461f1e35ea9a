use Rattle.std.proofs.lemmas.Result.{on_ok_weaker}
use Rattle.clause_uses.proofs.BranchLemmas.{more_in_all, more_times, other_times}
use Rattle.clause_uses.proofs.branches.count_branch.Goals as goal

pub returns-clause-more : goal.returns-clause-more
returns-clause-more c =
    on_ok_weaker c.add_branch.result (more_times c.args.counts.now.branches c.add_branch.new.self.branches c.args.from c.args.to c.args.times) c.add_branch.ensures.added

pub returns-clause-others : goal.returns-clause-others
returns-clause-others c =
    on_ok_weaker c.add_branch.result (other_times c.args.counts.now.branches c.add_branch.new.self.branches c.args.from c.args.to c.args.times) c.add_branch.ensures.added

pub returns-clause-total : goal.returns-clause-total
returns-clause-total c =
    on_ok_weaker c.add_branch.result (more_in_all c.args.counts.now.branches c.add_branch.new.self.branches c.args.from c.args.to c.args.times) c.add_branch.ensures.added
