use Rattle.entry_facts.proofs.FoundLemmas.{AreFound-before}
use Rattle.entry_facts.proofs.ListedLemmas.{AreListed-before}
use Rattle.entry_facts.proofs.findings.before.Goals as goal

pub returns-clause-found : goal.returns-clause-found
returns-clause-found c = λ entry way own rest. AreFound-before entry way c.args.own.now c.args.rest.now _ own rest c.or.ensures c.or-2.ensures c.or-3.ensures c.or-4.ensures

pub returns-clause-listed : goal.returns-clause-listed
returns-clause-listed c = λ units own rest. AreListed-before units c.args.own.now c.args.rest.now _ own rest c.or.ensures c.or-2.ensures c.or-3.ensures
