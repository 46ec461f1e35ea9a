use Rattle.placed_view.specs.Reader.{start_of}
use Rattle.dwarf_info.proofs.TailLemmas.{read-distinct}
use Rattle.dwarf_info.proofs.kinds.read_kinds.Goals as goal

pub new-requires : goal.new-requires
new-requires c = read-distinct (start_of c.args.part) c.in_ok-table.table c.in_ok-table.ensures.1
