use Rattle.path_search.specs.Task.{task_on}
use Rattle.path_search.proofs.EndLemmas.{reached, closed}
use Rattle.path_search.proofs.walk.Search.come_to_next.Goals as goal

pub returns-clause-come : goal.returns-clause-come
returns-clause-come c =
    let now = c.requires.under_way in
    record { settled = now.settled; listed = now.listed; next = c.in_ok-next.ensures.next }

pub returns-clause-reached : goal.returns-clause-reached
returns-clause-reached c = λ lacks.
    reached (task_on c.args.ground c.args.source) _ _ _ _ c.requires.ground c.requires.under_way.settled c.in_ok-next.ensures.next lacks

pub returns-in_err-next-clause-closed : goal.returns-in_err-next-clause-closed
returns-in_err-next-clause-closed c = rw c.from_residual.ensures
    (closed (task_on c.args.ground c.args.source) _ c.requires.ground c.requires.under_way.settled c.in_err-next.ensures.none)
