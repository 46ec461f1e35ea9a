use Rattle.std.proofs.Common.{◌≡◌, take}
use Rattle.std.specs.List.{flat_map}
use Rattle.answer_text.proofs.CountsLemmas.{row_line}
use Rattle.answer_text.proofs.counts.counts_text.Given as goal

abbrev pub invariant-loop-row : goal.invariant-loop-row
invariant-loop-row l = l.out.items ≡ flat_map row_line (take l.row-index l.row-items)
