use Rattle.std.specs.Option.{option_map}
use Rattle.placed_view.specs.Reader.{start_of}
use Rattle.binary_places.proofs.SharedLemmas.{AreKnown}
use Rattle.binary_places.proofs.TableLemmas.{TablesSoFar}
use Rattle.binary_places.proofs.tables.read_tables.Given as goal

abbrev pub invariant-loop-index : goal.invariant-loop-index
invariant-loop-index l =
    TablesSoFar l.elf (option_map start_of l.line) l.units l.index l.before l.tables.items
    × AreKnown l.elf (option_map start_of l.line) l.tables.items l.known
