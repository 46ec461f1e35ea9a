use Rattle.std.proofs.Common.{sym, ◌∙◌}
use Rattle.cfg_text.proofs.DraftLemmas.{first_holds, other_holds, way_taken}
use Rattle.cfg_text.proofs.draft.Draft.joins.Goals as goal

pub returns-then-has_way : goal.returns-then-has_way
returns-then-has_way c =
    let is = rw (c.way-way.ensures, c.deref.ensures.value) at c.has_way.ensures in
    rw (← c.self.view_is)
    (first_holds _ _ _ (sym is ∙ c.if-has_way.true) (way_taken _ _ _ _ _ _ c.args.from c.args.to c.self.invariant c.requires.to_fits))

pub returns : goal.returns
returns c =
    let is = rw (c.way-way.ensures, c.deref.ensures.value) at c.has_way.ensures in
    let others = rw c.way-way.ensures at c.contains.ensures in
    rw (← c.self.view_is)
    (others ∙ other_holds _ _ _ (sym is ∙ c.if-has_way.false) (way_taken _ _ _ _ _ _ c.args.from c.args.to c.self.invariant c.requires.to_fits))
