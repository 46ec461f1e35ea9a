use Rattle.row_table.proofs.SequenceLemmas.{LiveSoFar}
use Rattle.row_table.proofs.sequences.live.Given as goal

abbrev pub invariant-loop-row : goal.invariant-loop-row
invariant-loop-row l = LiveSoFar l.elf l.rows l.row-index l.sequences.items l.begun.items
