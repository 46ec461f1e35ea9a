use Rattle.flow_model.proofs.LawLemmas.{a_cut_shows_none, a_cut_shows_no_counts}
use Rattle.flow_model.proofs.laws.a_cut_shows_there_is_none.Goals as goal

pub returns : goal.returns
returns c = record { arcs = a_cut_shows_none; counts = a_cut_shows_no_counts }
