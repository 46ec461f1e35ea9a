use Rattle.flow_model.proofs.NumberLemmas.{tests_are_by_number}
use Rattle.flow_model.proofs.PassLemmas.{tests_are_exact, tests_show_least}
use Rattle.flow_model.proofs.balance_laws.tests_show_least_counts.Goals as goal

pub returns : goal.returns
returns c = record { exact = tests_are_exact; least = tests_show_least; by_number = tests_are_by_number }
