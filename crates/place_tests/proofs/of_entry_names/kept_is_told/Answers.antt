use Rattle.entry_facts.proofs.MemoLemmas.{Remembers-none}
use Rattle.place_tests.proofs.of_entry_names.kept_is_told.Goals as goal

pub origin_of-first-requires-clause-known : goal.origin_of-first-requires-clause-known
origin_of-first-requires-clause-known c = Remembers-none _ _ _ _ c.new-origins.ensures

pub origin_of-alone-requires-clause-known : goal.origin_of-alone-requires-clause-known
origin_of-alone-requires-clause-known c = Remembers-none _ _ _ _ c.new-others.ensures
