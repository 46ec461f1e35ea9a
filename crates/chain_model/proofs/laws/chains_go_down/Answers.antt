use Rattle.chain_model.proofs.DownLemmas.{chains_go_down}
use Rattle.chain_model.proofs.PassLemmas.{chains_go_step_by_step, one_pass}
use Rattle.chain_model.proofs.laws.chains_go_down.Goals as goal

pub returns-clause-steps : goal.returns-clause-steps
returns-clause-steps c = chains_go_step_by_step

pub returns-clause-down : goal.returns-clause-down
returns-clause-down c = chains_go_down

pub returns-clause-pass : goal.returns-clause-pass
returns-clause-pass c = one_pass
