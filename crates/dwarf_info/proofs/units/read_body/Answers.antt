use Rattle.std.proofs.Common.{Option, Some, subst}
use Rattle.std.specs.Option.{option_map}
use Rattle.byte_view.specs.Cursor.{Cursor}
use Rattle.placed_view.specs.Reader.{start_of}
use Rattle.dwarf_info.specs.Tables.{StandsIn}
use Rattle.dwarf_info.proofs.TableLemmas.{header-stands}
use Rattle.dwarf_info.proofs.units.read_body.Goals as goal

pub read_unit-requires-clause-ours : goal.read_unit-requires-clause-ours
read_unit-requires-clause-ours c =
    let read = rw c.in-Some.is at c.in_ok-head.ensures in
    subst (λ (s : Option Cursor). StandsIn s (Some c.in-Some.head)) c.section.ensures
    (header-stands c.args.extent.shape.wide (option_map start_of c.section.result) c.args.cur.now _ (Some c.in-Some.head) read)
