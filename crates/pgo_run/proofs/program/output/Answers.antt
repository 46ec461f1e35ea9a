use Rattle.pgo_run.proofs.program.output.Goals as goal

pub returns-in-Make-clause-carried : goal.returns-in-Make-clause-carried
returns-in-Make-clause-carried g c =
    let now = c.args.inputs.now in
    rw c.in-Make.is (c.file_output.ensures (g.I.Inputs.store now) (g.I.Inputs.opens now) (g.I.Inputs.faults now))

pub returns-in-MakeSum-clause-carried : goal.returns-in-MakeSum-clause-carried
returns-in-MakeSum-clause-carried g c =
    let now = c.args.inputs.now in
    rw c.in-MakeSum.is (c.summary_output.ensures (g.I.Inputs.store now) (g.I.Inputs.opens now) (g.I.Inputs.faults now))
