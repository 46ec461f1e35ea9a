use Rattle.std.proofs.Common.{◌≡◌}
use Rattle.dwarf_info.proofs.TailLemmas.{StandsBehind}
use Rattle.dwarf_info.proofs.tables.Tables.note_tails.Given as goal

abbrev pub invariant-loop-before : goal.invariant-loop-before
invariant-loop-before l = (l.self ≡ l.fn.self) × StandsBehind l.fn.self l.home l.before l.cur
