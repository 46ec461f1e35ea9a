use Rattle.entry_facts.proofs.findings.+findings_from.Given as goal

abbrev pub decreases-findings_from : goal.decreases-findings_from
decreases-findings_from l = l.steps
