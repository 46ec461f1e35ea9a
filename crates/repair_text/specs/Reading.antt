-- How far a repair text was read.
use Rattle.std.specs.Prelude.{◌≡◌, ℕ, ◌+◌, ◌<◌, ◌^◌, ⊤, true, List, [], ◌∷◌, ◌++◌, length, map, Option, None, Some, Result, Ok, Err}
use Rattle.std.specs.Borrow.{Bor}
use Rattle.std.specs.List.{enumerate_from}
use Rattle.std.specs.Option.{option_map}
use Rattle.std.specs.Str.{bytes_eq}
use Rattle.refusal.specs.declared.kind.Kind.TheVariants.{BadLine}
use Rattle.refusal.specs.declared.place.Place.{Place}
use Rattle.refusal.specs.declared.place.Stop.{Stop}
use Rattle.refusal.specs.declared.place.Stop.TheVariants.{Refused, NoMemory}
use Rattle.refusal.specs.Place.{first_bad}
use Rattle.text_scan.specs.declared.lines.Line.{Line}
use Rattle.block_model.specs.Function.{Function}
use Rattle.block_model.specs.Judging.{item}
use Rattle.cfg_text.specs.Fun.{function_of}
use Rattle.repair_model.specs.Judging.{cause_of_begin, cause_of_line, cause_of_name, items_from}
use Rattle.repair_model.specs.Repair.{Repair}
use Rattle.repair_model.specs.Text.{Course, Open as ModelOpen, begun, begun_by, closed_by, course_behind, opened_at, repairs_from, told_behind}
use Rattle.repair_model.specs.Line as model
use Rattle.repair_model.specs.Line.{line_of}
use Rattle.repair_text.specs.Repair.{numbered}
use Rattle.repair_text.specs.Told.{told_of}
use Rattle.repair_text.specs.declared.open.Told.{Told}
use Rattle.repair_text.specs.declared.reading.Open.{Open}
use Rattle.repair_text.specs.declared.reading.Reading.{Reading}
use Rattle.repair_text.specs.declared.repair.Repair as read

-- The repair that is open.
abbrev pub open_of : Open → ModelOpen
open_of opened = record { line = opened.line; fun = function_of opened.fun.now; told = told_of opened.told }

-- The repair that is open behind a line that does not end it.
abbrev pub told_more : ModelOpen → model.Line → ModelOpen
told_more opened line = record opened { told = told_behind opened.told line }

-- How far the text tells.
abbrev pub course_of : Reading → Course
course_of reading = record {
  left = map function_of reading.left.now;
  opened = option_map open_of reading.opened;
}

-- The repairs that were read.
abbrev pub done_of : Reading → List (ℕ × Repair)
done_of reading = map numbered reading.repairs.items

-- Lines are left behind the one of this number. Their first bad place is that of the whole text, and the repairs read
-- and theirs are all repairs.
pub record IsLeft
    (file : ℕ) (bad : Option Place) (all done : List (ℕ × Repair)) (course : Course) (at : ℕ)
    (left : List (ℕ × List ℕ))
    : Type 0 where
  pub rest : List (List ℕ)
  pub numbered : left ≡ enumerate_from (at + 1) rest
  pub judged : bad ≡ first_bad (items_from file (at + 1) course rest)
  pub spelled : all ≡ done ++ repairs_from (at + 1) course rest
  pub fits : at + length left + 1 < 2 ^ 64

-- A line is good in this course, and leads to that one and ends these repairs.
pub record IsGoodLine (line : Line) (course next : Course) (ended : List (ℕ × Repair)) : Type 0 where
  pub good : cause_of_line course line.bytes.now ≡ None
  pub behind : course_behind line.number course line.bytes.now ≡ next
  pub closed : closed_by course line.bytes.now ≡ ended

-- The line's place, if it is refused.
abbrev pub item_of : ℕ → Line → Course → Option Place
item_of file line course = item file line.number (cause_of_line course line.bytes.now)

-- A line was taken in, behind these repairs and in this course.
abbrev pub TakesIn : ℕ → Line → Course → List (ℕ × Repair) → Result Reading Stop → Type 0
TakesIn file line course done (Ok next) =
    (ended : List (ℕ × Repair)) × IsGoodLine line course (course_of next) ended × (done_of next ≡ done ++ ended)
TakesIn file line course done (Err (Refused place)) = item_of file line course ≡ Some place
TakesIn file line course done (Err NoMemory) = ⊤

-- The course where this repair is open.
abbrev pub course_inside : Reading → Open → Course
course_inside reading opened = record (course_of reading) { opened = Some (open_of opened) }

-- A line that begins a function has this name and tells this much.
pub record HasFirst (line name : List ℕ) (told : Repair) : Type 0 where
  pub cause : (left : List Function) → cause_of_begin left (line_of line) ≡ cause_of_name left name
  pub course : (number : ℕ) (left : List Function)
      → begun_by number left (line_of line) ≡ opened_at number left told.solution
  pub fresh : told ≡ begun told.solution

-- The name in a line that begins a function, and what it tells; or it has not the form of one.
abbrev pub IsFirstLine : List ℕ → Option (Bor (List ℕ) × Told) → Type 0
IsFirstLine line None = (left : List Function) → cause_of_begin left (line_of line) ≡ Some BadLine
IsFirstLine line (Some (name, told)) = HasFirst line name.now (told_of told)

-- The next function has this name and is open now with what its first line told.
pub record HasBegun (at : ℕ) (name : List ℕ) (old : Course) (told : Repair) (new : Course) : Type 0 where
  pub fun : Function
  pub funs : List Function
  pub next : old.left ≡ fun ∷ funs
  pub named : bytes_eq name fun.name ≡ true
  pub opened : new ≡ record { left = funs; opened = Some (record { line = at; fun = fun; told = told }) }

-- The next function began, or its first line is refused by its name.
abbrev pub Begins : ℕ → ℕ → List ℕ → Reading → Told → Result Reading Stop → Type 0
Begins file at name old told (Ok new) =
    HasBegun at name (course_of old) (told_of told) (course_of new) × (done_of new ≡ done_of old)
Begins file at name old told (Err (Refused place)) = item file at (cause_of_name (course_of old).left name) ≡ Some place
Begins file at name old told (Err NoMemory) = ⊥

-- One repair more was read.
abbrev pub Keeps : Reading → read.Repair → Reading → Type 0
Keeps old repair new = (course_of new ≡ course_of old) × (done_of new ≡ done_of old ++ numbered repair ∷ [])
