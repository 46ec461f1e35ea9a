-- Which line of a repair text is its first bad place.
use Rattle.std.specs.Prelude.{ℕ, ◌+◌, ◌==◌, nat_lt, Bool, not, ◌||◌, List, [], ◌∷◌, length, take, drop, Option, None, Some, is_some, if◌then◌else◌}
use Rattle.std.specs.List.{list_any}
use Rattle.std.specs.Str.{bytes_eq}
use Rattle.refusal.specs.declared.kind.Kind.{Kind}
use Rattle.refusal.specs.declared.kind.Kind.TheVariants.{BadLine, Extra, Missing, WrongFunction, WrongBlock, WrongEdge}
use Rattle.refusal.specs.declared.place.Place.{Place}
use Rattle.refusal.specs.Place.{first_bad, first_cause, fails_at}
use Rattle.text_model.specs.Lines.{lines_of}
use Rattle.block_model.specs.Function.{Function, joins}
use Rattle.block_model.specs.Judging.{item}
use Rattle.repair_model.specs.Line.{Line, line_of, begins_function}
use Rattle.repair_model.specs.Line.{begins_flow, begins_cut, tells_count, tells_sides, tells_edge, ends_flow, ends_cut}
use Rattle.repair_model.specs.Repair.{Repair, has_counts, told_edges}
use Rattle.repair_model.specs.Text.{Course, course_behind, untold}

-- Blocks of the function are still to be told.
abbrev pub is_block_due : Function → Repair → Bool
is_block_due fun told = nat_lt (length told.weights) (length fun.blocks)

-- Edges of the function are still to be told.
abbrev pub is_edge_due : Function → Repair → Bool
is_edge_due fun told = nat_lt (length told.edge_weights) (length (told_edges fun told.solution))

-- The next edge joins these two blocks.
abbrev pub is_next_edge : Function → Repair → ℕ → ℕ → Bool
is_next_edge fun told from to = list_any (joins from to) (take 1 (drop (length told.edge_weights) fun.edges))

-- Why the line of a block is refused, of counts or of a cut as the repair is, or not.
unfoldable pub cause_of_block : Bool → Function → Repair → ℕ → Option Kind
cause_of_block has_form fun told number = first_cause (
    (not has_form, BadLine)
    ∷ (not (is_block_due fun told), Extra)
    ∷ (not (number == length told.weights), WrongBlock)
    ∷ [])

-- Why the line of an edge is refused.
unfoldable pub cause_of_edge : Function → Repair → ℕ → ℕ → Option Kind
cause_of_edge fun told from to = first_cause (
    (is_block_due fun told, Missing)
    ∷ (not (is_edge_due fun told), Extra)
    ∷ (not (is_next_edge fun told from to), WrongEdge)
    ∷ [])

-- Why the last line of a repair is refused, of counts or of a cut as the repair is, or not.
unfoldable pub cause_of_end : Bool → Function → Repair → Option Kind
cause_of_end has_form fun told = first_cause (
    (not has_form, BadLine) ∷ (is_block_due fun told || is_edge_due fun told, Missing) ∷ [])

-- Why a line inside a function is refused, or none.
unfoldable pub cause_inside : Function → Repair → Option Line → Option Kind
cause_inside fun told (Some (tells_count number weight count enter leave)) =
    cause_of_block (has_counts told.solution) fun told number
cause_inside fun told (Some (tells_sides number weight enter leave)) =
    cause_of_block (not (has_counts told.solution)) fun told number
cause_inside fun told (Some (tells_edge from to weight count)) = cause_of_edge fun told from to
cause_inside fun told (Some (ends_flow cost)) = cause_of_end (has_counts told.solution) fun told
cause_inside fun told (Some (ends_cut least most)) = cause_of_end (not (has_counts told.solution)) fun told
cause_inside fun told _ = Some BadLine

-- Why a name is refused where these functions are to come.
abbrev pub cause_of_name : List Function → List ℕ → Option Kind
cause_of_name [] name = Some Extra
cause_of_name (fun ∷ funs) name = first_cause ((not (bytes_eq name fun.name), WrongFunction) ∷ [])

-- Why a line that begins a function is refused.
unfoldable pub cause_of_begin : List Function → Option Line → Option Kind
cause_of_begin left (Some (begins_flow name)) = cause_of_name left name
cause_of_begin left (Some (begins_cut name root)) = cause_of_name left name
cause_of_begin left _ = Some BadLine

-- Why a line outside of functions is refused: it is passed over, unless it begins one.
abbrev pub cause_outside : List Function → List ℕ → Option Kind
cause_outside left line = if begins_function line then cause_of_begin left (line_of line) else None

-- Why a line is refused in the course of a text, or none.
unfoldable pub cause_of_line : Course → List ℕ → Option Kind
cause_of_line course line = elim course.opened [
  | None ↦ cause_outside course.left line
  | Some opened ↦ cause_inside opened.fun opened.told (line_of line)
]

-- Something is still to be told.
abbrev pub is_unfinished : Course → Bool
is_unfinished course = is_some course.opened || nat_lt 0 (length course.left)

-- Lines as items, in order, the first of them with this number; last the text's end, which fails inside a function and
-- where functions are still to come.
unfoldable pub items_from : ℕ → ℕ → Course → List (List ℕ) → List (Option Place)
items_from file number course [] =
    fails_at (is_unfinished course) (record { file = file; at = number; kind = Missing }) ∷ []
items_from file number course (line ∷ lines) =
    item file number (cause_of_line course line)
    ∷ items_from file (number + 1) (course_behind number course line) lines

-- The first bad place of a repair text, its size aside.
abbrev pub first_bad_of_repairs : ℕ → List Function → List ℕ → Option Place
first_bad_of_repairs file funs text = first_bad (items_from file 1 (untold funs) (lines_of text))
