use Rattle.std.proofs.Common.{◌+◌, ◌≤◌, ℕ, List, drop, ap, arith}
use Rattle.std.proofs.lemmas.List.{length-take}
use Rattle.byte_view.specs.Cursor.{Cursor}
use Rattle.dwarf_info.proofs.PartLemmas.{drop-piece}
use Rattle.dwarf_info.proofs.header.part_from.Goals as goal

pub returns : goal.returns
returns c =
    let part = c.args.part in
    let fits : c.args.offset ≤ part.len = omega (arith, c.requires, length-take part.len (drop part.at part.file.now)) in
    let P : List ℕ → Cursor = λ l. record { at = part.at + c.args.offset; left = l } in
    ap P (drop-piece part.file.now part.at part.len c.args.offset fits)
