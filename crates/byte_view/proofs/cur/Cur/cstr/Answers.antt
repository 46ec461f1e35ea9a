use Rattle.std.proofs.Common.{rules, ap}
use Rattle.byte_view.specs.Cursor.{Cursor}
use Rattle.byte_view.proofs.TextLemmas.{text_at-none, text_at-passed, Reads-passed}
use Rattle.byte_view.proofs.cur.Cur.cstr.Goals as goal

pub returns-in_default-clause-exact : goal.returns-in_default-clause-exact
returns-in_default-clause-exact c =
    let none = text_at-none c.self.inside.rest.now c.in_default.ensures in search rules

pub returns-clause-exact : goal.returns-clause-exact
returns-clause-exact c =
    text_at-passed _ _ c.args.self.now c.pass-passed.new.self _ (ap (λ (cur : Cursor). cur.left) c.self.view_is) c.in-Some.ensures
    c.pass-passed.ensures.bytes c.pass-passed.ensures.left

pub returns-clause-found : goal.returns-clause-found
returns-clause-found c =
    Reads-passed _ _ c.args.self.now c.pass-passed.new.self _ (ap (λ (cur : Cursor). cur.left) c.self.view_is) c.in-Some.ensures
    c.pass-passed.ensures.bytes c.pass-passed.ensures.left c.pass-passed.ensures.at
