use Rattle.cfg_text.proofs.RisingLemmas.{no_way, strictly, way_at}
use Rattle.cfg_text.proofs.ways.has_way.Goals as goal

pub returns-then-place-edges : goal.returns-then-place-edges
returns-then-place-edges c = no_way c.args.way c.gone_before-place.result c.args.edges.now c.if-place-edges.true c.gone_before-place.ensures.before

pub returns : goal.returns
returns c =
    rw c.way_by.ensures
    (way_at c.args.way c.gone_before-place.result c.args.edges.now _ c.requires (strictly _ _ c.gone_before-place.ensures.within c.if-place-edges.false)
    c.gone_before-place.ensures.before c.gone_before-place.ensures.others)
