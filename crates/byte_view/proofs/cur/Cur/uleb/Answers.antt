use Rattle.std.proofs.Common.{ap}
use Rattle.byte_view.specs.Cursor.{Cursor}
use Rattle.byte_view.proofs.Spellings.{Reads-uleb}
use Rattle.byte_view.proofs.cur.Cur.uleb.Goals as goal

pub returns-clause-found : goal.returns-clause-found
returns-clause-found c =
    Reads-uleb c.self.inside.rest.now c.args.self.now c.pass.new.self c.in_ok-value.count
    (ap (λ (cur : Cursor). cur.left) c.self.view_is) c.in_ok-value.ensures.within
    c.pass.ensures.left c.pass.ensures.at c.in_ok-value.value c.in_ok-value.ensures.found
