use Rattle.std.proofs.Common.{length, ap, arith}
use Rattle.unit_model.specs.Abbrev.{Abbrev}
use Rattle.dwarf_info.proofs.TellingLemmas.{room-more}
use Rattle.dwarf_info.proofs.kinds.room_of.Goals as goal

pub loop-index-preserved : goal.loop-index-preserved
loop-index-preserved c =
    let more = room-more c.args.table.now c.loop-index.index c.loop-index.room c.at.result c.loop-index.invariant c.at.ensures in
    let first = c.saturating_add.ensures in
    let last = c.saturating_add-room.ensures in
    let attrs = ap (λ (k : Abbrev). length k.attrs) c.at-in-loop-index.view_is in
    omega (arith, more, first, last, attrs)
