use Rattle.std.proofs.Common.{◌≡◌, ap, rules, to_z, of_z, w64}
use Rattle.byte_view.specs.Cursor.{Cursor}
use Rattle.byte_view.proofs.Spellings.{Reads-sleb}
use Rattle.byte_view.proofs.cur.Cur.sleb.Goals as goal

pub returns-clause-found : goal.returns-clause-found
returns-clause-found c =
    let is : to_z w64 (of_z w64 c.in_ok-value.value) ≡ c.in_ok-value.value = search rules in
    rw is
    (Reads-sleb c.self.inside.rest.now c.args.self.now c.pass.new.self c.in_ok-value.count
    (ap (λ (cur : Cursor). cur.left) c.self.view_is) c.in_ok-value.ensures.within
    c.pass.ensures.left c.pass.ensures.at c.in_ok-value.value c.in_ok-value.ensures.found)
