use Rattle.entry_facts.proofs.ListLemmas.{lists_none}
use Rattle.place_tests.proofs.of_entry_pieces.pieces_of.Goals as goal

pub pieces-requires-clause-known : goal.pieces-requires-clause-known
pieces-requires-clause-known c = lists_none _ _ _ c.new-lists.ensures
