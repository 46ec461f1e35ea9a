use Rattle.std.proofs.Common.{rules}
use Rattle.std.proofs.lemmas.Int.{ints}
use Rattle.path_search.specs.Task.{task_on}
use Rattle.path_search.proofs.EndLemmas.{reached}
use Rattle.path_search.proofs.OrderLemmas.{come_to_source}
use Rattle.path_search.proofs.walk.Search.find.Goals as goal

pub returns-then-ground-source-lt0-clause-ended : goal.returns-then-ground-source-lt0-clause-ended
returns-then-ground-source-lt0-clause-ended c =
    let come = come_to_source (task_on c.args.ground c.args.source) _
    (record { marks = c.begin.new.marks; frontier = c.begin.new.frontier; order = c.clear.new.self }) c.requires.ground c.requires.source c.requires.marked
    c.begin.ensures.marks c.begin.ensures.frontier c.clear.ensures.items in
    let at = come.next.current.at in
    record {
      reached = reached (task_on c.args.ground c.args.source) _ _ _ _ c.requires.ground come.settled come.next (search (rules, ints, c.if-ground-source-lt0.true));
      next = rw at come.next;
      listed = come.listed;
    }

pub walk-requires-clause-come : goal.walk-requires-clause-come
walk-requires-clause-come c =
    come_to_source (task_on c.args.ground c.args.source) _
    (record { marks = c.begin.new.marks; frontier = c.begin.new.frontier; order = c.clear.new.self }) c.requires.ground c.requires.source c.requires.marked c.begin.ensures.marks c.begin.ensures.frontier
    c.clear.ensures.items
