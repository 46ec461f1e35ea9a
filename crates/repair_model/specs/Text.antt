-- The lines of a repair, and the repairs that lines spell.
use Rattle.std.specs.Prelude.{ℕ, zero, suc, length, ◌+◌, Bool, false, true, List, [], ◌∷◌, ◌++◌, map, Option, None, Some, ℤ, pos, slice_index, slice_index_or, if◌then◌else◌}
use Rattle.std.specs.List.{enumerate_from, flat_map}
use Rattle.std.specs.Option.{unwrap_or}
use Rattle.text_model.specs.Laws.{ended}
use Rattle.text_model.specs.Lines.{lines_of}
use Rattle.block_model.specs.declared.parts.Edge.{Edge}
use Rattle.block_model.specs.declared.parts.Weight.{Weight}
use Rattle.block_model.specs.declared.parts.Weight.TheVariants.{Unknown}
use Rattle.block_model.specs.Function.{Function}
use Rattle.repair_model.specs.Line.{Line, line_of, line_text, begins_function}
use Rattle.repair_model.specs.Line.{begins_flow, begins_cut, tells_count, tells_sides, tells_edge, ends_flow, ends_cut}
use Rattle.repair_model.specs.Repair.{Repair, Solution, flow, cut, told_edges}

-- ---- the lines of a repair

-- The line with which a repair begins.
abbrev pub first_line : List ℕ → Solution → Line
first_line name (flow counts ins outs) = begins_flow name
first_line name (cut root ins outs) = begins_cut name root

-- The line of the block of this number and weight.
abbrev pub line_of_block : ℕ → Weight → Solution → Line
line_of_block number weight (flow counts ins outs) =
    tells_count number weight (slice_index counts.blocks number)
    (slice_index_or ins number (pos 0)) (slice_index_or outs number (pos 0))
line_of_block number weight (cut root ins outs) =
    tells_sides number weight (slice_index_or ins number false) (slice_index_or outs number false)

-- The count of the edge in this place.
abbrev pub count_of_edge : Solution → ℕ → ℕ
count_of_edge (flow counts ins outs) place = slice_index counts.edges place
count_of_edge (cut root ins outs) place = 0

-- The line of an edge in its place, with its weight or without.
abbrev pub line_of_edge : Bool → List Weight → Solution → ℕ × Edge → Line
line_of_edge weighed weights solution (place, edge) =
    tells_edge edge.from edge.to (if weighed then Some (slice_index_or weights place Unknown) else None)
    (count_of_edge solution place)

-- The line with which a repair ends.
abbrev pub last_line : Solution → ℕ → ℕ → Line
last_line (flow counts ins outs) first second = ends_flow first
last_line (cut root ins outs) first second = ends_cut first second

-- Numbers from this one on, so many.
abbrev pub numbers : ℕ → ℕ → List ℕ
numbers from zero = []
numbers from (suc count) = from ∷ numbers (from + 1) count

-- The lines of so many blocks.
abbrev pub lines_of_blocks : ℕ → List Weight → Solution → List Line
lines_of_blocks count weights solution =
    map (λ number. line_of_block number (slice_index_or weights number Unknown) solution) (numbers 0 count)

-- The lines of edges, with their weights or without.
abbrev pub lines_of_edges : Bool → List Edge → List Weight → Solution → List Line
lines_of_edges weighed edges weights solution = map (line_of_edge weighed weights solution) (enumerate_from 0 edges)

-- All lines of a repair of a function, the edges with their weights or without.
unfoldable pub lines_of_repair : Bool → Function → Repair → List Line
lines_of_repair weighed fun repair =
    first_line fun.name repair.solution
    ∷ (lines_of_blocks (length fun.blocks) repair.weights repair.solution
    ++ (lines_of_edges weighed (told_edges fun repair.solution) repair.edge_weights repair.solution
    ++ last_line repair.solution repair.first repair.second ∷ []))

-- Lines as they are written.
abbrev pub text_of_lines : List Line → List ℕ
text_of_lines lines = flat_map (λ line. ended (line_text line)) lines

-- How a repair is written.
abbrev pub repair_text : Bool → Function → Repair → List ℕ
repair_text weighed fun repair = text_of_lines (lines_of_repair weighed fun repair)

-- ---- the repairs that lines spell

-- A repair that is being told: the number of its first line, its function, and what was told so far.
pub record Open : Type 0 where
  pub line : ℕ
  pub fun : Function
  pub told : Repair

-- Nothing told yet but what the first line says.
abbrev pub begun : Solution → Repair
begun solution = record { weights = []; edge_weights = []; solution = solution; first = 0; second = 0 }

-- How far a text tells: the functions that are still to come, and the repair that is open.
pub record Course : Type 0 where
  pub left : List Function
  pub opened : Option Open

-- A block more.
abbrev pub with_count : Repair → Weight → ℕ → ℤ → ℤ → Solution → Repair
with_count told weight count enter leave (flow counts ins outs) = record told {
  weights = told.weights ++ weight ∷ [];
  solution = flow (record counts { blocks = counts.blocks ++ count ∷ [] }) (ins ++ enter ∷ []) (outs ++ leave ∷ []);
}
with_count told weight count enter leave (cut root ins outs) = told

abbrev pub with_sides : Repair → Weight → Bool → Bool → Solution → Repair
with_sides told weight enter leave (cut root ins outs) = record told {
  weights = told.weights ++ weight ∷ [];
  solution = cut root (ins ++ enter ∷ []) (outs ++ leave ∷ []);
}
with_sides told weight enter leave (flow counts ins outs) = told

-- An edge more; without a weight it is unknown.
abbrev pub with_edge : Repair → Option Weight → ℕ → Solution → Repair
with_edge told weight count (flow counts ins outs) = record told {
  edge_weights = told.edge_weights ++ unwrap_or weight Unknown ∷ [];
  solution = flow (record counts { edges = counts.edges ++ count ∷ [] }) ins outs;
}
with_edge told weight count (cut root ins outs) = told

-- What is told behind a line.
abbrev pub told_behind : Repair → Line → Repair
told_behind told (tells_count number weight count enter leave) =
    with_count told weight count enter leave told.solution
told_behind told (tells_sides number weight enter leave) = with_sides told weight enter leave told.solution
told_behind told (tells_edge from to weight count) = with_edge told weight count told.solution
told_behind told (ends_flow cost) = record told { first = cost }
told_behind told (ends_cut least most) = record told { first = least; second = most }
told_behind told _ = told

-- Whether a repair ends.
abbrev pub is_end : Line → Bool
is_end (ends_flow cost) = true
is_end (ends_cut least most) = true
is_end _ = false

-- The course of a text behind a line inside a function.
abbrev pub inside : List Function → Open → Option Line → Course
inside left opened None = record { left = left; opened = Some opened }
inside left opened (Some line) = record {
  left = left;
  opened = if is_end line then None else Some (record opened { told = told_behind opened.told line });
}

-- The course behind the first line of the next function.
abbrev pub opened_at : ℕ → List Function → Solution → Course
opened_at number [] solution = record { left = []; opened = None }
opened_at number (fun ∷ funs) solution =
    record { left = funs; opened = Some (record { line = number; fun = fun; told = begun solution }) }

-- The course behind a line that begins a function.
abbrev pub begun_by : ℕ → List Function → Option Line → Course
begun_by number left (Some (begins_flow name)) =
    opened_at number left (flow (record { blocks = []; edges = [] }) [] [])
begun_by number left (Some (begins_cut name root)) = opened_at number left (cut root [] [])
begun_by number left _ = record { left = left; opened = None }

-- The course of a text behind a line of this number.
unfoldable pub course_behind : ℕ → Course → List ℕ → Course
course_behind number course line = elim course.opened [
  | None ↦ if begins_function line then begun_by number course.left (line_of line) else course
  | Some opened ↦ inside course.left opened (line_of line)
]

-- The repair that a line inside a function ends, with the number of its first line.
abbrev pub ended_by : Open → Option Line → List (ℕ × Repair)
ended_by opened None = []
ended_by opened (Some line) = if is_end line then (opened.line, told_behind opened.told line) ∷ [] else []

-- The repair that a line ends.
unfoldable pub closed_by : Course → List ℕ → List (ℕ × Repair)
closed_by course line = elim course.opened [
  | None ↦ []
  | Some opened ↦ ended_by opened (line_of line)
]

-- The repairs that lines end, in order, the first of them with this number and the text so far in its course.
unfoldable pub repairs_from : ℕ → Course → List (List ℕ) → List (ℕ × Repair)
repairs_from number course [] = []
repairs_from number course (line ∷ lines) =
    closed_by course line ++ repairs_from (number + 1) (course_behind number course line) lines

-- A text has told nothing, and these functions are to come.
abbrev pub untold : List Function → Course
untold funs = record { left = funs; opened = None }

-- The repairs of functions that a text spells, each with the number of its first line.
abbrev pub repairs_of : List Function → List ℕ → List (ℕ × Repair)
repairs_of funs text = repairs_from 1 (untold funs) (lines_of text)
