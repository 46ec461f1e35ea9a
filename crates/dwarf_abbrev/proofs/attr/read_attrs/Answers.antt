use Rattle.dwarf_abbrev.proofs.AttrLemmas.{AttrsSoFar-none, AttrsSoFar-more}
use Rattle.dwarf_abbrev.proofs.attr.read_attrs.Goals as goal

pub loop-attr-init : goal.loop-attr-init
loop-attr-init c = AttrsSoFar-none _ _

pub loop-attr-preserved : goal.loop-attr-preserved
loop-attr-preserved c =
    AttrsSoFar-more _ _ _ _ c.in-Some.attr _ _ c.loop-attr.invariant (rw c.in-Some.is at c.in_ok-attr.ensures.read) c.in_ok-attr.ensures.shorter c.in_ok-push.ensures
