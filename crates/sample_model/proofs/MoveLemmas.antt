-- Ranges whose ends are moved.
use Rattle.std.proofs.Common.{◌≡◌, ℕ, ◌||◌, List, [], ◌∷◌, map, Option, None, Some, refl, ap₂, ◌+◌, ◌++◌, length, sym, ◌∙◌}
use Rattle.std.specs.Prelude.{is_none, if◌then◌else◌}
use Rattle.std.specs.List.{zip, flat_map}
use Rattle.std.proofs.lemmas.List.{length-append, length-map}
use Rattle.load_model.specs.declared.load_segment.LoadSegment.{LoadSegment}
use Rattle.sample_model.specs.declared.load.Load.{Load}
use Rattle.sample_model.specs.Moves.{move_of, moved_branch, moved_range_between, moved_ranges, or_0, range_from, LoadMap, counted_branch, moved_line, moved_lines}
use Rattle.sample_model.specs.Samples.{range_between, ranges_between, branches_of_lines}
use Rattle.sample_model.specs.Laws.{RangesMoveByTheirEnds, moved_by_ends}
use Rattle.sample_model.specs.Line.{branches_of_line}
use Rattle.sample_model.specs.Loads.{loads_of}

-- what two moved ends make of a range
of_two_ends : (to from : Option ℕ) → range_from to from ≡ (if is_none to || is_none from then (0, 0) else (or_0 to, or_0 from))
of_two_ends None from = refl
of_two_ends (Some lo) None = refl
of_two_ends (Some lo) (Some hi) = refl

-- the branches of a sample behind a newest one, each with its neighbour
along : (segments : List LoadSegment) (loads : List Load) (newest : ℕ × ℕ) (others : List (ℕ × ℕ))
    → map moved_range_between (zip (map (moved_branch segments loads) (newest ∷ others)) (map (moved_branch segments loads) others))
    ≡ map (moved_by_ends (move_of segments loads)) (map range_between (zip (newest ∷ others) others))
along segments loads newest [] = refl
along segments loads newest (next ∷ others) =
    ap₂ (λ first rest. first ∷ rest) (of_two_ends (move_of segments loads next.1) (move_of segments loads newest.0)) (along segments loads next others)

pub ranges_move_by_their_ends : RangesMoveByTheirEnds
unfolding moved_ranges ranges_between
ranges_move_by_their_ends segments loads [] = refl
ranges_move_by_their_ends segments loads (newest ∷ others) = along segments loads newest others

-- moved, there are as many branches
pub moved_branches : (loading : LoadMap) (before : List Load) (lines : List (List ℕ)) → length (flat_map (map counted_branch) (moved_lines loading before lines)) ≡ length (branches_of_lines lines)
moved_branches loading before [] = refl
moved_branches loading before (line ∷ lines) =
    let more = before ++ loads_of loading.name (line ∷ []) in
    length-append (map counted_branch (moved_line loading.segments before line)) (flat_map (map counted_branch) (moved_lines loading more lines))
    ∙ (λ i. (length-map (moved_line loading.segments before line) counted_branch ∙ length-map (branches_of_line line) (moved_branch loading.segments before)) i
    + moved_branches loading more lines i)
    ∙ sym (length-append (branches_of_line line) (branches_of_lines lines))
