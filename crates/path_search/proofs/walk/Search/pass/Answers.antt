use Rattle.std.proofs.Common.{◌≡◌, length, rules, arith}
use Rattle.path_search.specs.Task.{task_on}
use Rattle.path_search.proofs.SearchLemmas.{few_settled}
use Rattle.path_search.proofs.WalkLemmas.{settled_now, looks_from, waits_on, walked}
use Rattle.path_search.proofs.CostLemmas.{few_sides}
use Rattle.path_search.proofs.EndLemmas.{next_near}
use Rattle.path_search.proofs.WayLemmas.{ways_from}
use Rattle.path_search.proofs.OrderLemmas.{order_more}
use Rattle.path_search.proofs.walk.Search.pass.Goals as goal

pub overflow_cast-len : goal.overflow_cast-len
overflow_cast-len c =
    let few = few_sides _ c.requires.ground.of_a_function in
    let count = few_settled c.args.self.now.marks in
    let rank : c.len.result ≡ length c.args.self.now.order.items = search rules in
    search (arith, few, count, rank, c.requires.come.listed.count, c.requires.come.settled.each, c.requires.ground.priced)

pub look_around-requires-clause-looking : goal.look_around-requires-clause-looking
look_around-requires-clause-looking c =
    let come = c.requires.come in
    let near = next_near (task_on c.args.ground c.args.source) _ _ _ _ c.requires.ground come.settled come.next in
    let at = come.next.current.at in
    let now = settled_now _ _ _ _ come.next.inside come.next.current.waits c.settle.ensures in
    looks_from (task_on c.args.ground c.args.source) _ _ _ _ _ c.requires.ground.small (omega (arith, near, at))
    (record { settled = come.settled; next = come.next; now = now })

pub returns-clause-more : goal.returns-clause-more
returns-clause-more c =
    let come = c.requires.come in
    let now = settled_now _ _ _ _ come.next.inside come.next.current.waits c.settle.ensures in
    omega (arith, now.count, c.in_ok-look_around.ensures.nearer.count)

pub returns-clause-under_way : goal.returns-clause-under_way
returns-clause-under_way c =
    let come = c.requires.come in
    let next = come.next in
    let rank : c.len.result ≡ length c.args.self.now.order.items = search rules in
    let now = settled_now _ _ _ _ next.inside next.current.waits c.settle.ensures in
    let count = come.listed.count in
    let from = ways_from (task_on c.args.ground c.args.source) _ _ _ _ _ next.inside next.current.waits next.current.at (omega (arith, rank, count))
    c.settle.ensures now come.settled.ways in
    record {
      settled = walked (task_on c.args.ground c.args.source) _ _ _ _ _ _ _ c.requires.ground (record { settled = come.settled; next = next; now = now })
          c.requires.enough c.in_ok-look_around.ensures.looking c.in_ok-look_around.ensures.nearer
          c.in_ok-look_around.ensures.out c.in_ok-look_around.ensures.back (c.in_ok-look_around.ensures.ways c.args.ground.excess.now c.args.source from).ways;
      waiting = waits_on _ _ _ _ c.in_ok-look_around.ensures.looking;
      listed = rw c.in_ok-push.ensures.items
          (order_more _ _ _ _ _ _ next.inside next.current.waits rank c.settle.ensures now
          (λ other settled. let before = next.behind other settled in let at = next.current.at in omega (arith, before, at))
          c.in_ok-look_around.ensures.nearer come.listed);
    }
