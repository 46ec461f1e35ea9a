use Rattle.std.proofs.Common.{◌≡◌, vec_capacity}
use Rattle.text_model.specs.Fields.{fields_of}
use Rattle.sample_model.specs.Line.{entry_fields}
use Rattle.branch_lines.proofs.LineLemmas.{EntriesSoFar}
use Rattle.branch_lines.proofs.line.read_sample.Given as goal

abbrev pub invariant-loop-field : goal.invariant-loop-field
invariant-loop-field l =
    EntriesSoFar (entry_fields (fields_of l.line)) l.field-iterator l.branches.items
    × (vec_capacity l.branches ≡ vec_capacity l.initial.branches)
