use Rattle.flow_phases.proofs.DigitLemmas.{decided}
use Rattle.flow_phases.proofs.digits.starts_within.Goals as goal

pub returns : goal.returns
returns c = decided c.args.net.now c.arcs.result.now c.args.digits c.are_within.result c.arcs.ensures.arcs c.are_within.ensures
