use Rattle.std.proofs.Common.{sym, ap}
use Rattle.unit_model.specs.Abbrev.{Attr}
use Rattle.dwarf_info.proofs.ValueLemmas.{IsFound-added}
use Rattle.dwarf_info.proofs.values.read_next.Goals as goal

pub returns-clause-read : goal.returns-clause-read
returns-clause-read c =
    IsFound-added c.args.shape.wide c.args.tag c.args.attr.now c.args.first c.args.found.now c.add_found.new.found c.args.cur.now c.read_at.new.cur _ c.attr.inside.name _ _ _ _ _ c.requires
    c.in_ok-value.ensures.read (ap (λ (a : Attr). a.name) (sym c.attr.view_is)) c.at-at.ensures.place c.wanted-purpose.ensures c.accepts-is_bad.ensures c.in_ok-refuse_if.ensures.0
    c.is_unused.ensures c.if-is_unused.false c.in_ok-add_found.ensures
