use Rattle.std.proofs.Common.{◌≡◌, ◌++◌, ◌∷◌, [], map, drop}
use Rattle.line_model.specs.Rows.{addresses_of, never_fall}
use Rattle.row_table.proofs.sequence.Sequence.is_rising.Given as goal

abbrev pub invariant-loop-row : goal.invariant-loop-row
invariant-loop-row l =
    never_fall (addresses_of l.self)
    ≡ never_fall (l.last ∷ map (λ row. row.address) (drop l.row-index l.self.rows ++ l.self.end ∷ []))
