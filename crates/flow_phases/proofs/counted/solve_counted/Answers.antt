use Rattle.flow_phases.proofs.CountLemmas.{all_few}
use Rattle.flow_phases.proofs.counted.solve_counted.Goals as goal

pub returns-in-None-clause-counted : goal.returns-in-None-clause-counted
returns-in-None-clause-counted c =
    all_few c.args.net.now c.digits_of.result _ _ _ c.digits_of.ensures.least c.solve_plainly.ensures.counted c.solve_in_phases.ensures.counted
