use Rattle.flow_model.proofs.LawLemmas.{fitting_prices_show_least, fitting_prices_show_least_counts}
use Rattle.flow_model.proofs.laws.fitting_prices_show_least.Goals as goal

pub returns : goal.returns
returns c = record { arcs = fitting_prices_show_least; counts = fitting_prices_show_least_counts }
