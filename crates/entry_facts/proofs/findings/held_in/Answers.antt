use Rattle.std.proofs.Common.{sym}
use Rattle.entry_facts.proofs.ListedLemmas.{IfSome-all, listed_held}
use Rattle.entry_facts.proofs.findings.held_in.Goals as goal

pub returns-in-Some-clause-listed : goal.returns-in-Some-clause-listed
returns-in-Some-clause-listed c = λ units listed.
    IfSome-all _ _ c.args.begins_at
    (λ at here. listed_held units c.args.entry.now _ c.args.name at c.in-Some.found _ (sym c.in-Some.ensures) here c.entry.view_is c.found.view_is)
    listed
