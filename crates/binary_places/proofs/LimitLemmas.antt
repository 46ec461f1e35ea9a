-- The limit of rows over all programs.
use Rattle.std.proofs.Common.{◌≡◌, ◌≤◌, ◌<◌, ◌+◌, ℕ, Bool, true, false, ◌||◌, nat_le, List, [], ◌∷◌, ◌++◌, length, Option, None, Some, Result, Ok, Err, refl, ap, subst, ◌∙◌, arith, length-append}
use Rattle.std.specs.Prelude.{⊤, if◌then◌else◌}
use Rattle.std.proofs.lemmas.Bool.{leb-false, leb-true}
use Rattle.refusal.specs.declared.kind.Kind.{Kind}
use Rattle.refusal.specs.declared.kind.Kind.TheVariants.{TooManyRows}
use Rattle.refusal.specs.declared.place.Place.{Place}
use Rattle.byte_view.specs.Cursor.{Cursor}
use Rattle.line_model.specs.declared.row.Row.{Row}
use Rattle.line_model.specs.declared.operation.Operation.{Operation}
use Rattle.line_model.specs.Header.{Header}
use Rattle.line_model.specs.Registers.{Registers, Step, start, step_of}
use Rattle.line_model.specs.Fields.{Judged, Program, ◌>>=◌, program_at, unless}
use Rattle.line_model.specs.Program.{Machine, Placed, at_place, is_full, is_open, machine_after, machine_behind, max_rows, operations_of, max_rows_of_all, rows_at, rows_behind, rows_in, with_added, with_step}

-- A machine has not more rows than may be, together with those before.
Within : {E : Type 0} → ℕ → Result Machine E → Type 0
Within before (Ok machine) = before + length machine.rows ≤ max_rows_of_all
Within before (Err why) = ⊤

RowsWithin : ℕ → Judged (List Row) → Type 0
RowsWithin before (Ok rows) = before + length rows ≤ max_rows_of_all
RowsWithin before (Err place) = ⊤

-- what is not full has room
room : (a b : Bool) (n : ℕ) → (b ≡ false → n < max_rows_of_all) → a || b ≡ false → n < max_rows_of_all
room true b n less e = absurd cc
room false b n less e = less e

pushed : (before : ℕ) (machine : Machine) (registers : Registers) (row : Row) (full : Bool) → is_full before machine.rows ≡ full
    → Within {E = Kind} before (if full then Err TooManyRows else Ok (record { registers = registers; rows = machine.rows ++ row ∷ [] }))
unfolding Within
pushed before machine registers row true e = tt
pushed before machine registers row false e =
    let less : before + length machine.rows < max_rows_of_all =
    room (nat_le max_rows (length machine.rows)) (nat_le max_rows_of_all (before + length machine.rows)) (before + length machine.rows)
    (λ no. leb-false max_rows_of_all (before + length machine.rows) no) e in
    let more = length-append machine.rows (row ∷ []) in
    omega (arith, more)

added : (before : ℕ) (machine : Machine) (registers : Registers) (row : Option Row) → before + length machine.rows ≤ max_rows_of_all
    → Within before (with_added before machine registers row)
unfolding Within
added before machine registers None within = within
added before machine registers (Some row) within = pushed before machine registers row (is_full before machine.rows) refl

stepped : (before : ℕ) (machine : Machine) (step : Option Step) → before + length machine.rows ≤ max_rows_of_all → Within before (with_step before machine step)
unfolding Within
stepped before machine None within = tt
stepped before machine (Some step) within = added before machine step.registers step.row within

operated : (header : Header) (before : ℕ) (machine : Machine) (operation : Result Operation Kind) → before + length machine.rows ≤ max_rows_of_all
    → Within before (machine_after header before machine operation)
unfolding Within
operated header before machine (Ok operation) within = stepped before machine (step_of header machine.registers operation) within
operated header before machine (Err kind) within = tt

placed : (before at : ℕ) (machine : Result Machine Kind) → Within before machine → Within before (at_place at machine)
unfolding Within
placed before at (Ok machine) within = within
placed before at (Err kind) within = tt

ended : (before : ℕ) (unended : Bool) (place : Place) (rows : List Row) → before + length rows ≤ max_rows_of_all → RowsWithin before (unless unended place rows)
unfolding RowsWithin
ended before true place rows within = tt
ended before false place rows within = within

gone_on : (before : ℕ) (machine : Judged Machine) (next : Machine → Judged (List Row)) → Within before machine
    → ((machine : Machine) → before + length machine.rows ≤ max_rows_of_all → RowsWithin before (next machine)) → RowsWithin before (machine >>= next)
unfolding Within RowsWithin
gone_on before (Ok machine) next within then_ = then_ machine within
gone_on before (Err place) next within then_ = tt

behind : (header : Header) (before end : ℕ) (all : List Placed) (machine : Machine) → before + length machine.rows ≤ max_rows_of_all
    → RowsWithin before (rows_behind header before end machine all)
behind header before end [] machine within = ended before (is_open machine.rows) _ machine.rows within
behind header before end (place ∷ more) machine within =
    gone_on before (machine_behind header before machine place) (λ next. rows_behind header before end next more)
    (placed before place.at (machine_after header before machine place.operation) (operated header before machine place.operation within))
    (λ next still. behind header before end more next still)

in_program : (before : ℕ) (program : Judged Program) → before ≤ max_rows_of_all → RowsWithin before (program >>= rows_in before)
unfolding rows_in RowsWithin
in_program before (Ok program) within =
    behind program.header before (program.opcodes.at + length program.opcodes.left) (operations_of program) (record { registers = start; rows = [] }) (omega arith)
in_program before (Err place) within = tt

all_within : (before : ℕ) (cur : Cursor) → before ≤ max_rows_of_all → RowsWithin before (rows_at before cur)
unfolding rows_at
all_within before cur within = in_program before (program_at cur) within

-- The rows that are read of a program are not too many, together with those before.
pub rows_within : (before : ℕ) (cur : Cursor) (rows : List Row) → before ≤ max_rows_of_all → rows_at before cur ≡ Ok rows → before + length rows ≤ max_rows_of_all
unfolding RowsWithin
rows_within before cur rows within read = subst (λ r. RowsWithin before r) read (all_within before cur within)

-- ---- the same program behind other rows

-- A step adds no fewer rows, and is the same behind `before` rows, where they are within the limit.
Steps : {E : Type 0} → ℕ → Machine → Result Machine E → Result Machine E → Type 0
Steps before old (Ok next) other = (length old.rows ≤ length next.rows) × (before + length next.rows ≤ max_rows_of_all → other ≡ Ok next)
Steps before old (Err why) other = ⊤

-- The same of all steps that are left.
Ends : ℕ → ℕ → Judged (List Row) → Judged (List Row) → Type 0
Ends before least (Ok rows) other = (least ≤ length rows) × (before + length rows ≤ max_rows_of_all → other ≡ Ok rows)
Ends before least (Err place) other = ⊤

full_of_all : (a b c : Bool) → a || b ≡ false → a || c ≡ true → c ≡ true
full_of_all true b c not is = absurd cc
full_of_all false b c not is = is

pushed_again : (was before : ℕ) (machine : Machine) (registers : Registers) (row : Row) (full too : Bool) → is_full was machine.rows ≡ full → is_full before machine.rows ≡ too
    → Steps {E = Kind} before machine
    (if full then Err TooManyRows else Ok (record { registers = registers; rows = machine.rows ++ row ∷ [] }))
    (if too then Err TooManyRows else Ok (record { registers = registers; rows = machine.rows ++ row ∷ [] }))
unfolding Steps
pushed_again was before machine registers row true too e f = tt
pushed_again was before machine registers row false false e f =
    let more = length-append machine.rows (row ∷ []) in
    (omega (arith, more), λ few. refl)
pushed_again was before machine registers row false true e f =
    let more = length-append machine.rows (row ∷ []) in
    let all : nat_le max_rows_of_all (before + length machine.rows) ≡ true =
    full_of_all (nat_le max_rows (length machine.rows)) (nat_le max_rows_of_all (was + length machine.rows)) (nat_le max_rows_of_all (before + length machine.rows)) e f in
    let past : max_rows_of_all ≤ before + length machine.rows = leb-true max_rows_of_all (before + length machine.rows) all in
    (omega (arith, more), λ few. absurd (omega (arith, more, past, few)))

added_again : (was before : ℕ) (machine : Machine) (registers : Registers) (row : Option Row)
    → Steps before machine (with_added was machine registers row) (with_added before machine registers row)
unfolding Steps
added_again was before machine registers None = (omega arith, λ few. refl)
added_again was before machine registers (Some row) =
    pushed_again was before machine registers row (is_full was machine.rows) (is_full before machine.rows) refl refl

stepped_again : (was before : ℕ) (machine : Machine) (step : Option Step) → Steps before machine (with_step was machine step) (with_step before machine step)
unfolding Steps
stepped_again was before machine None = tt
stepped_again was before machine (Some step) = added_again was before machine step.registers step.row

operated_again : (header : Header) (was before : ℕ) (machine : Machine) (operation : Result Operation Kind)
    → Steps before machine (machine_after header was machine operation) (machine_after header before machine operation)
unfolding Steps
operated_again header was before machine (Ok operation) = stepped_again was before machine (step_of header machine.registers operation)
operated_again header was before machine (Err kind) = tt

placed_again : (before at : ℕ) (old : Machine) (machine other : Result Machine Kind) → Steps before old machine other → Steps before old (at_place at machine) (at_place at other)
unfolding Steps
placed_again before at old (Ok next) other same = (same.0, λ few. ap (λ (m : Result Machine Kind). at_place at m) (same.1 few))
placed_again before at old (Err kind) other same = tt

ended_again : (before : ℕ) (unended : Bool) (place : Place) (rows : List Row) → Ends before (length rows) (unless unended place rows) (unless unended place rows)
unfolding Ends
ended_again before true place rows = tt
ended_again before false place rows = (omega arith, λ few. refl)

gone_on_then : (before : ℕ) (old next : Machine) (other : Judged Machine) (rest : Judged (List Row)) (go : Machine → Judged (List Row)) → length old.rows ≤ length next.rows
    → (before + length next.rows ≤ max_rows_of_all → other ≡ Ok next) → Ends before (length next.rows) rest (go next) → Ends before (length old.rows) rest (other >>= go)
unfolding Ends
gone_on_then before old next other (Ok rows) go more same ends =
    (omega (arith, more, ends.0), λ few. ap (λ (m : Judged Machine). m >>= go) (same (omega (arith, few, ends.0))) ∙ ends.1 few)
gone_on_then before old next other (Err place) go more same ends = tt

gone_on_again : (before : ℕ) (old : Machine) (machine other : Judged Machine) (rest go : Machine → Judged (List Row)) → Steps before old machine other
    → ((next : Machine) → Ends before (length next.rows) (rest next) (go next)) → Ends before (length old.rows) (machine >>= rest) (other >>= go)
unfolding Steps Ends
gone_on_again before old (Ok next) other rest go same ends = gone_on_then before old next other (rest next) go same.0 same.1 (ends next)
gone_on_again before old (Err place) other rest go same ends = tt

behind_again : (header : Header) (was before end : ℕ) (all : List Placed) (machine : Machine)
    → Ends before (length machine.rows) (rows_behind header was end machine all) (rows_behind header before end machine all)
behind_again header was before end [] machine = ended_again before (is_open machine.rows) _ machine.rows
behind_again header was before end (place ∷ more) machine =
    gone_on_again before machine (machine_behind header was machine place) (machine_behind header before machine place)
    (λ next. rows_behind header was end next more) (λ next. rows_behind header before end next more)
    (placed_again before place.at machine (machine_after header was machine place.operation) (machine_after header before machine place.operation)
    (operated_again header was before machine place.operation))
    (λ next. behind_again header was before end more next)

program_again : (was before : ℕ) (program : Judged Program) → Ends before 0 (program >>= rows_in was) (program >>= rows_in before)
unfolding rows_in Ends
program_again was before (Ok program) =
    behind_again program.header was before (program.opcodes.at + length program.opcodes.left) (operations_of program) (record { registers = start; rows = [] })
program_again was before (Err place) = tt

all_again : (was before : ℕ) (cur : Cursor) → Ends before 0 (rows_at was cur) (rows_at before cur)
unfolding rows_at
all_again was before cur = program_again was before (program_at cur)

-- A program has the same rows wherever they are not too many.
pub rows_again : (was before : ℕ) (cur : Cursor) (rows : List Row) → rows_at was cur ≡ Ok rows → before + length rows ≤ max_rows_of_all → rows_at before cur ≡ Ok rows
unfolding Ends
rows_again was before cur rows read few = (subst (λ r. Ends before 0 r (rows_at before cur)) read (all_again was before cur)).1 few
