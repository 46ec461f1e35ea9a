-- What reading one line gives.
use Rattle.std.specs.Prelude.{◌≡◌, ℕ, ◌+◌, nat_lt, true, false, List, [], ◌∷◌, ◌++◌, length, take, Option, None, Some, Result, Ok, Err, if◌then◌else◌}
use Rattle.std.specs.List.{filter_map}
use Rattle.refusal.specs.declared.kind.Kind.{Kind}
use Rattle.refusal.specs.declared.kind.Kind.TheVariants.{BadLine, TooManyBranches}
use Rattle.text_model.specs.Fields.{fields_of}
use Rattle.sample_model.specs.Limits.{max_branches, max_entries}
use Rattle.sample_model.specs.Line.{entry_of, entry_fields, is_well_formed, branches_of_line}
use Rattle.sample_model.specs.Judging.{cause_of_line}

-- Of a sample's branches one more is kept than it may have.
abbrev pub kept : List (ℕ × ℕ) → List (ℕ × ℕ)
kept branches = take (max_entries + 1) branches

-- The entry's branch stands behind the others, as far as they are kept, or the field is no entry.
abbrev pub ReadsEntry : List ℕ → Result (Unit {0}) Kind → List (ℕ × ℕ) → List (ℕ × ℕ) → Type 0
ReadsEntry field (Ok done) old new =
    (branch : ℕ × ℕ) × (entry_of field ≡ Some branch) × (kept old ≡ old → new ≡ kept (old ++ branch ∷ []))
ReadsEntry field (Err kind) old new = (kind ≡ BadLine) × (entry_of field ≡ None)

-- The branches are those of the sample's entries, as far as they are kept, or it is not well formed.
abbrev pub ReadsSample : List ℕ → Result (Unit {0}) Kind → List (ℕ × ℕ) → Type 0
ReadsSample line (Ok done) branches =
    (is_well_formed line ≡ true) × (branches ≡ kept (filter_map entry_of (entry_fields (fields_of line))))
ReadsSample line (Err kind) branches = (kind ≡ BadLine) × (is_well_formed line ≡ false)

-- What is left to judge of a line: that the branches are not too many, all in all.
abbrev pub cause_of_total : ℕ → ℕ → Option Kind
cause_of_total before more = if nat_lt max_branches (before + more) then Some TooManyBranches else None

-- The branches are those of the line, and only their number is left to judge; or the line is refused whatever stands
-- before it.
abbrev pub ReadsLine : List ℕ → Result (Unit {0}) Kind → List (ℕ × ℕ) → Type 0
ReadsLine line (Ok done) branches =
    (branches ≡ branches_of_line line)
    × ((before : ℕ) → cause_of_line before line ≡ cause_of_total before (length branches))
ReadsLine line (Err kind) branches = (before : ℕ) → cause_of_line before line ≡ Some kind
