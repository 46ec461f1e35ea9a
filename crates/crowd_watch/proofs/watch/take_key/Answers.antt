use Rattle.std.proofs.Common.{[], ap, ◌∙◌}
use Rattle.indexmap.specs.IndexSet.{insert_all}
use Rattle.indexmap.proofs.SetLemmas.{set_all_distinct}
use Rattle.crowd_watch.proofs.watch.take_key.Goals as goal

-- all values go over in their order, since no two are equal
pub returns-in-Ok-clause-keys : goal.returns-in-Ok-clause-keys
returns-in-Ok-clause-keys g c =
    let eq = g.T.PartialEq.eq in
    let old = c.args.table.now.keys in
    let moved = rw c.unwrap.ensures at c.append.ensures.keys in
    ap (λ s. s.keys) c.swap.ensures.x_after ∙ moved ∙ ap (λ keys. insert_all eq keys old) c.in-Ok.ensures.empty
    ∙ set_all_distinct g.met.T.Eq.laws [] old c.len-len.ensures.unique
