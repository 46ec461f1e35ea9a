use Rattle.std.proofs.Common.{◌≡◌, take}
use Rattle.std.specs.List.{flat_map}
use Rattle.branch_stacks.proofs.PieceLemmas.{PiecesSoFar}
use Rattle.branch_stacks.proofs.pieces.read_pieces.Given as goal

abbrev pub invariant-loop-piece : goal.invariant-loop-piece
invariant-loop-piece l = record {
  read : PiecesSoFar l.initial.reader.loading l.initial.reader.file (flat_map (λ piece. piece.now) (take l.piece-index l.pieces)) l.reader l.counts;
  ranged : l.counts.with_ranges ≡ l.initial.counts.with_ranges;
}
