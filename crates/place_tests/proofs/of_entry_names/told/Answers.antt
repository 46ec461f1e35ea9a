use Rattle.entry_facts.proofs.MemoLemmas.{Remembers-none}
use Rattle.place_tests.proofs.of_entry_names.told.Goals as goal

pub origin_of-requires-clause-known : goal.origin_of-requires-clause-known
origin_of-requires-clause-known c = Remembers-none _ _ _ _ c.new-origins.ensures
