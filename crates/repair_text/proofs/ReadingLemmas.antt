-- What reading a line of a repair text leaves to read.
use Rattle.std.proofs.Common.{◌≡◌, ℕ, ◌<◌, ◌+◌, ◌^◌, Bool, true, false, List, [], ◌∷◌, ◌++◌, length, map, Option, Some, None, refl, arith, sym, ◌∙◌, ap, subst, append_assoc, Result, Ok, Err}
use Rattle.std.specs.Option.{option_map}
use Rattle.std.specs.Str.{bytes_eq}
use Rattle.std.proofs.lemmas.List.{append-nil}
use Rattle.refusal.specs.declared.kind.Kind.{Kind}
use Rattle.refusal.specs.declared.kind.Kind.TheVariants.{BadLine, Missing}
use Rattle.refusal.specs.declared.place.Place.{Place}
use Rattle.refusal.specs.declared.place.Stop.{Stop}
use Rattle.refusal.specs.declared.place.Stop.TheVariants.{Refused, NoMemory}
use Rattle.refusal.specs.Place.{first_bad, fails_at, JudgesUnlessNoMemory}
use Rattle.std.specs.Borrow.{Bor}
use Rattle.text_model.specs.Lines.{lines_of}
use Rattle.text_scan.specs.declared.lines.Line.{Line}
use Rattle.text_scan.specs.Lines.{as_numbered, numbered_lines}
use Rattle.block_model.specs.Function.{Function}
use Rattle.block_model.specs.Judging.{item}
use Rattle.cfg_text.specs.Fun.{function_of}
use Rattle.repair_model.proofs.WholeLemmas.{lines_fewer}
use Rattle.text_scan.proofs.LineLemmas.{first_of, no_rest, length-enumerated}
use Rattle.repair_model.specs.Judging.{cause_inside, cause_of_begin, cause_of_line, cause_of_name, first_bad_of_repairs, is_unfinished, items_from}
use Rattle.repair_model.specs.Line as model
use Rattle.repair_model.specs.Line.{begins_function, line_of}
use Rattle.repair_model.specs.Repair.{Repair, Solution, flow, cut}
use Rattle.repair_model.specs.Text.{Course, Open as ModelOpen, begun, begun_by, closed_by, course_behind, ended_by, inside, is_end, opened_at, repairs_from, repairs_of, told_behind, untold}
use Rattle.repair_text.specs.Reading.{Begins, HasBegun, HasFirst, TakesIn, IsGoodLine, IsLeft, Keeps, course_inside, course_of, done_of, item_of, open_of, told_more}
use Rattle.repair_text.specs.Said.{meaning_of}
use Rattle.repair_text.specs.declared.said.RepairLine.{RepairLine}
use Rattle.repair_text.specs.declared.said.RepairLine.TheVariants as said
use Rattle.repair_text.specs.Repair.{numbered, repair_of}
use Rattle.repair_text.specs.Told.{told_of, with_sums}
use Rattle.repair_text.specs.declared.open.Told.{Told}
use Rattle.repair_text.specs.declared.open.Told.TheVariants as told
use Rattle.repair_text.specs.declared.reading.Open.{Open}
use Rattle.repair_text.specs.declared.reading.Reading.{Reading}
use Rattle.repair_text.specs.declared.repair.Repair as read

-- ---- a line inside a function

abbrev within : List Function → ModelOpen → Course
within left opened = record { left = left; opened = Some opened }

abbrev outside : List Function → Course
outside left = record { left = left; opened = None }

pub bad_inside : (file : ℕ) (line : Line) (old : Reading) (opened : Open) (said : Option model.Line) (kind : Kind)
    → said ≡ line_of line.bytes.now → cause_inside (function_of opened.fun.now) (told_of opened.told) said ≡ Some kind
    → item_of file line (course_inside old opened) ≡ Some (record { file = file; at = line.number; kind = kind })
unfolding cause_of_line
bad_inside file line old opened said kind is bad =
    ap (λ (o : Option Kind). item file line.number o) (ap (cause_inside (function_of opened.fun.now) (told_of opened.told)) (sym is) ∙ bad)

pub no_line_inside : (file : ℕ) (line : Line) (old : Reading) (opened : Open) → None ≡ line_of line.bytes.now
    → item_of file line (course_inside old opened) ≡ Some (record { file = file; at = line.number; kind = BadLine })
unfolding cause_inside
no_line_inside file line old opened is = bad_inside file line old opened None BadLine is refl

ends_inside : (line : Line) (left : List Function) (opened : ModelOpen) (said : model.Line) → Some said ≡ line_of line.bytes.now
    → cause_inside opened.fun opened.told (Some said) ≡ None → is_end said ≡ true
    → IsGoodLine line (within left opened) (outside left) ((opened.line, told_behind opened.told said) ∷ [])
unfolding cause_of_line course_behind closed_by
ends_inside line left opened said is good ends = record {
  good = ap (cause_inside opened.fun opened.told) (sym is) ∙ good;
  behind = ap (inside left opened) (sym is) ∙ rw ends refl;
  closed = ap (ended_by opened) (sym is) ∙ rw ends refl;
}

goes_on_inside : (line : Line) (left : List Function) (opened : ModelOpen) (said : model.Line) → Some said ≡ line_of line.bytes.now
    → cause_inside opened.fun opened.told (Some said) ≡ None → is_end said ≡ false
    → IsGoodLine line (within left opened) (within left (record opened { told = told_behind opened.told said })) []
unfolding cause_of_line course_behind closed_by
goes_on_inside line left opened said is good ends = record {
  good = ap (cause_inside opened.fun opened.told) (sym is) ∙ good;
  behind = ap (inside left opened) (sym is) ∙ rw ends refl;
  closed = ap (ended_by opened) (sym is) ∙ rw ends refl;
}

pub ends_flow_told : (t : Told) (cost : ℕ) → with_sums (told_of t) cost 0 ≡ told_behind (told_of t) (model.ends_flow cost)
ends_flow_told (told.OpenCounts counts) cost = refl
ends_flow_told (told.Sides sides) cost = refl

pub closes : (line : Line) (old new : Reading) (opened : Open) (said : model.Line) (repair : read.Repair) → old.opened ≡ None
    → Some said ≡ line_of line.bytes.now → cause_inside (function_of opened.fun.now) (told_of opened.told) (Some said) ≡ None
    → is_end said ≡ true → repair_of repair ≡ told_behind (told_of opened.told) said → repair.line ≡ opened.line → Keeps old repair new
    → (ended : List (ℕ × Repair)) × IsGoodLine line (course_inside old opened) (course_of new) ended × (done_of new ≡ done_of old ++ ended)
closes line old new opened said repair none is good ends told at kept =
    let left = map function_of old.left.now in
    let course : course_of new ≡ outside left =
    kept.0 ∙ ap (λ (o : Option Open). record { left = left; opened = option_map open_of o }) none in
    let pair : numbered repair ≡ (opened.line, told_behind (told_of opened.told) said) =
    ap (λ (n : ℕ). (n, repair_of repair)) at ∙ ap (λ (r : Repair). (opened.line, r)) told in
    let ended = ends_inside line left (open_of opened) said is good ends in (
      numbered repair ∷ [],
      subst (λ (c : Course). IsGoodLine line (course_inside old opened) c (numbered repair ∷ [])) (sym course)
          (subst (λ (p : ℕ × Repair). IsGoodLine line (course_inside old opened) (outside left) (p ∷ [])) (sym pair) ended),
      kept.1,
    )

pub goes_on : (line : Line) (old : Reading) (opened next : Open) (said : model.Line) → Some said ≡ line_of line.bytes.now
    → cause_inside (function_of opened.fun.now) (told_of opened.told) (Some said) ≡ None → is_end said ≡ false
    → open_of next ≡ told_more (open_of opened) said
    → (ended : List (ℕ × Repair)) × IsGoodLine line (course_inside old opened) (course_of (record old { opened = Some next })) ended
    × (done_of old ≡ done_of old ++ ended)
goes_on line old opened next said is good ends told =
    let left = map function_of old.left.now in
    let more = goes_on_inside line left (open_of opened) said is good ends in (
      [],
      subst (λ (o : ModelOpen). IsGoodLine line (course_inside old opened) (within left o) []) (sym told) more,
      sym (append-nil (done_of old)),
    )

pub no_end : (s : RepairLine) → ((cost : ℕ) → s ≡ said.EndOfFlow cost → ⊥) → ((least most : ℕ) → s ≡ said.EndOfCut least most → ⊥)
    → is_end (meaning_of s) ≡ false
no_end (said.Flow name) no_flow no_cut = refl
no_end (said.Cut name root) no_flow no_cut = refl
no_end (said.Count number weight count enter leave) no_flow no_cut = refl
no_end (said.Sides number weight enter leave) no_flow no_cut = refl
no_end (said.Edge from to weight count) no_flow no_cut = refl
no_end (said.EndOfFlow cost) no_flow no_cut = absurd (no_flow cost refl)
no_end (said.EndOfCut least most) no_flow no_cut = absurd (no_cut least most refl)

-- ---- a line outside of functions

passes_by : (line : Line) (course : Course) → course.opened ≡ None → begins_function line.bytes.now ≡ false → IsGoodLine line course course []
unfolding cause_of_line course_behind closed_by
passes_by line course none other = record { good = rw (none, other) refl; behind = rw (none, other) refl; closed = rw none refl }

pub passes : (line : Line) (old : Reading) → old.opened ≡ None → begins_function line.bytes.now ≡ false
    → (ended : List (ℕ × Repair)) × IsGoodLine line (course_of old) (course_of old) ended × (done_of old ≡ done_of old ++ ended)
passes line old none other = ([], passes_by line (course_of old) (ap (option_map open_of) none) other, sym (append-nil (done_of old)))

item_outside : (file : ℕ) (line : Line) (course : Course) → course.opened ≡ None → begins_function line.bytes.now ≡ true
    → item_of file line course ≡ item file line.number (cause_of_begin course.left (line_of line.bytes.now))
unfolding cause_of_line
item_outside file line course none begins = rw (none, begins) refl

pub bad_first : (file : ℕ) (line : Line) (old : Reading) → old.opened ≡ None → begins_function line.bytes.now ≡ true
    → ((left : List Function) → cause_of_begin left (line_of line.bytes.now) ≡ Some BadLine)
    → item_of file line (course_of old) ≡ Some (record { file = file; at = line.number; kind = BadLine })
bad_first file line old none begins bad =
    item_outside file line (course_of old) (ap (option_map open_of) none) begins ∙ ap (item file line.number) (bad (course_of old).left)

named_next : (left funs : List Function) (fun : Function) (name : List ℕ) → left ≡ fun ∷ funs → bytes_eq name fun.name ≡ true → cause_of_name left name ≡ None
named_next left funs fun name next named = rw (next, named) refl

opens : (at : ℕ) (left funs : List Function) (fun : Function) (solution : Solution) → left ≡ fun ∷ funs
    → opened_at at left solution ≡ record { left = funs; opened = Some (record { line = at; fun = fun; told = begun solution }) }
opens at left funs fun solution next = rw next refl

begins_by : (line : Line) (course next : Course) (name : List ℕ) (t : Repair) → course.opened ≡ None → begins_function line.bytes.now ≡ true
    → HasFirst line.bytes.now name t → HasBegun line.number name course t next → IsGoodLine line course next []
unfolding cause_of_line course_behind closed_by
begins_by line course next name t none begins first has = record {
  good = rw (none, begins) (first.cause course.left ∙ named_next course.left has.funs has.fun name has.next has.named);
  behind = rw (none, begins) (
      first.course line.number course.left ∙ opens line.number course.left has.funs has.fun t.solution has.next
      ∙ ap (λ (r : Repair). within has.funs (record { line = line.number; fun = has.fun; told = r })) (sym first.fresh) ∙ sym has.opened
      );
  closed = rw none refl;
}

pub begins_here : (file : ℕ) (line : Line) (old : Reading) (name : List ℕ) (t : Told) (r : Result Reading Stop) → old.opened ≡ None
    → begins_function line.bytes.now ≡ true → HasFirst line.bytes.now name (told_of t) → Begins file line.number name old t r
    → TakesIn file line (course_of old) (done_of old) r
begins_here file line old name t (Ok new) none begins first has = (
  [],
  begins_by line (course_of old) (course_of new) name (told_of t) (ap (option_map open_of) none) begins first has.0,
  has.1 ∙ sym (append-nil (done_of old)),
)
begins_here file line old name t (Err (Refused place)) none begins first has =
    item_outside file line (course_of old) (ap (option_map open_of) none) begins
    ∙ ap (item file line.number) (first.cause (course_of old).left) ∙ has
begins_here file line old name t (Err NoMemory) none begins first has = absurd has

-- what a first line says

pub first_flow : (line name : List ℕ) (t : Told) → Some (model.begins_flow name) ≡ line_of line
    → told_of t ≡ begun (flow (record { blocks = []; edges = [] }) [] []) → HasFirst line name (told_of t)
unfolding cause_of_begin
first_flow line name t is fresh = rw fresh (record {
  cause = λ left. ap (cause_of_begin left) (sym is);
  course = λ number left. ap (begun_by number left) (sym is);
  fresh = refl;
})

pub first_cut : (line name : List ℕ) (root : Bool) (t : Told) → Some (model.begins_cut name root) ≡ line_of line
    → told_of t ≡ begun (cut root [] []) → HasFirst line name (told_of t)
unfolding cause_of_begin
first_cut line name root t is fresh = rw fresh (record {
  cause = λ left. ap (cause_of_begin left) (sym is);
  course = λ number left. ap (begun_by number left) (sym is);
  fresh = refl;
})

pub no_first : (line : List ℕ) (s : RepairLine) → ((name : Bor (List ℕ)) → s ≡ said.Flow name → ⊥) → ((name : Bor (List ℕ)) (root : Bool) → s ≡ said.Cut name root → ⊥)
    → Some (meaning_of s) ≡ line_of line → (left : List Function) → cause_of_begin left (line_of line) ≡ Some BadLine
unfolding cause_of_begin
no_first line (said.Flow name) no_flow no_cut is left = absurd (no_flow name refl)
no_first line (said.Cut name root) no_flow no_cut is left = absurd (no_cut name root refl)
no_first line (said.Count number weight count enter leave) no_flow no_cut is left = ap (cause_of_begin left) (sym is)
no_first line (said.Sides number weight enter leave) no_flow no_cut is left = ap (cause_of_begin left) (sym is)
no_first line (said.Edge from to weight count) no_flow no_cut is left = ap (cause_of_begin left) (sym is)
no_first line (said.EndOfFlow cost) no_flow no_cut is left = ap (cause_of_begin left) (sym is)
no_first line (said.EndOfCut least most) no_flow no_cut is left = ap (cause_of_begin left) (sym is)

pub no_line_first : (line : List ℕ) → None ≡ line_of line → (left : List Function) → cause_of_begin left (line_of line) ≡ Some BadLine
unfolding cause_of_begin
no_line_first line is left = ap (cause_of_begin left) (sym is)

-- ---- the lines of a text

items-line : (file number : ℕ) (course : Course) (line : List ℕ) (lines : List (List ℕ))
    → items_from file number course (line ∷ lines) ≡ item file number (cause_of_line course line) ∷ items_from file (number + 1) (course_behind number course line) lines
unfolding items_from
items-line file number course line lines = refl

repairs-line : (number : ℕ) (course : Course) (line : List ℕ) (lines : List (List ℕ))
    → repairs_from number course (line ∷ lines) ≡ closed_by course line ++ repairs_from (number + 1) (course_behind number course line) lines
unfolding repairs_from
repairs-line number course line lines = refl

judged_next : (file at : ℕ) (course next : Course) (ended : List (ℕ × Repair)) (line : Line) (rest others : List (List ℕ))
    → rest ≡ line.bytes.now ∷ others → line.number ≡ at + 1 → IsGoodLine line course next ended
    → first_bad (items_from file (at + 1) course rest) ≡ first_bad (items_from file (line.number + 1) next others)
judged_next file at course next ended line rest others split is good =
    let behind = rw is at good.behind in
    rw (split, items-line file (at + 1) course line.bytes.now others, good.good, behind, is) refl

spelled_next : (at : ℕ) (course next : Course) (done ended : List (ℕ × Repair)) (line : Line) (rest others : List (List ℕ))
    → rest ≡ line.bytes.now ∷ others → line.number ≡ at + 1 → IsGoodLine line course next ended
    → done ++ repairs_from (at + 1) course rest ≡ (done ++ ended) ++ repairs_from (line.number + 1) next others
spelled_next at course next done ended line rest others split is good =
    let behind = rw is at good.behind in
    rw (split, repairs-line (at + 1) course line.bytes.now others, good.closed, behind, is)
    (sym (append_assoc done ended (repairs_from (at + 1 + 1) next others)))

good_line : (file at : ℕ) (bad : Option Place) (all done ended : List (ℕ × Repair)) (course next : Course) (line : Line) (old left : List (ℕ × List ℕ))
    → IsLeft file bad all done course at old → old ≡ as_numbered line ∷ left → IsGoodLine line course next ended
    → IsLeft file bad all (done ++ ended) next line.number left
good_line file at bad all done ended course next line old left kept is good =
    let first = first_of at kept.rest line old left kept.numbered is in
    record {
      rest = first.others;
      numbered = first.behind;
      judged = kept.judged ∙ judged_next file at course next ended line kept.rest first.others first.split first.number good;
      spelled = kept.spelled ∙ spelled_next at course next done ended line kept.rest first.others first.split first.number good;
      fits = omega (arith, kept.fits, ap length is, first.number);
    }

bad_line : (file at : ℕ) (bad : Option Place) (all done : List (ℕ × Repair)) (course : Course) (line : Line) (old left : List (ℕ × List ℕ)) (place : Place)
    → IsLeft file bad all done course at old → old ≡ as_numbered line ∷ left → item_of file line course ≡ Some place → bad ≡ Some place
bad_line file at bad all done course line old left place kept is refused =
    let first = first_of at kept.rest line old left kept.numbered is in
    let here = rw first.number at refused in
    kept.judged ∙ rw (first.split, items-line file (at + 1) course line.bytes.now first.others, here)

-- ---- the end

items-end : (file number : ℕ) (course : Course)
    → items_from file number course [] ≡ fails_at (is_unfinished course) (record { file = file; at = number; kind = Missing }) ∷ []
unfolding items_from
items-end file number course = refl

repairs-end : (number : ℕ) (course : Course) → repairs_from number course [] ≡ []
unfolding repairs_from
repairs-end number course = refl

pub end_missing : (file at : ℕ) (bad : Option Place) (all done : List (ℕ × Repair)) (course : Course) (left : List (ℕ × List ℕ))
    → IsLeft file bad all done course at left → left ≡ [] → is_unfinished course ≡ true → bad ≡ Some (record { file = file; at = at + 1; kind = Missing })
end_missing file at bad all done course left kept none unfinished =
    let over = no_rest (at + 1) kept.rest (sym none ∙ kept.numbered) in
    kept.judged ∙ rw (over, items-end file (at + 1) course, unfinished) refl

pub end_whole : (file at : ℕ) (bad : Option Place) (all done : List (ℕ × Repair)) (course : Course) (left : List (ℕ × List ℕ))
    → IsLeft file bad all done course at left → left ≡ [] → is_unfinished course ≡ false → (bad ≡ None) × (done ≡ all)
end_whole file at bad all done course left kept none finished =
    let over = no_rest (at + 1) kept.rest (sym none ∙ kept.numbered) in (
      kept.judged ∙ rw (over, items-end file (at + 1) course, finished) refl,
      sym (kept.spelled ∙ rw (over, repairs-end (at + 1) course) (append-nil done)),
    )

-- ---- the start

pub all_left : (file : ℕ) (funs : List Function) (text : List ℕ) (left : List (ℕ × List ℕ)) (course : Course) (done : List (ℕ × Repair))
    → left ≡ numbered_lines text → length text < 2 ^ 63 → course ≡ untold funs → done ≡ []
    → IsLeft file (first_bad_of_repairs file funs text) (repairs_of funs text) done course 0 left
all_left file funs text left course done is fits begin none = record {
  rest = lines_of text;
  numbered = is;
  judged = ap (λ (c : Course). first_bad (items_from file 1 c (lines_of text))) (sym begin);
  spelled = ap (λ (c : Course). repairs_from 1 c (lines_of text)) (sym begin)
      ∙ ap (λ (d : List (ℕ × Repair)). d ++ repairs_from 1 course (lines_of text)) (sym none);
  fits = omega (arith, fits, lines_fewer text, ap length is, length-enumerated 1 (lines_of text));
}

pub takes_good : (file at : ℕ) (bad : Option Place) (all : List (ℕ × Repair)) (old new : Reading) (line : Line) (lines left : List (ℕ × List ℕ))
    → IsLeft file bad all (done_of old) (course_of old) at lines → lines ≡ as_numbered line ∷ left
    → TakesIn file line (course_of old) (done_of old) (Ok new) → IsLeft file bad all (done_of new) (course_of new) line.number left
takes_good file at bad all old new line lines left kept is (ended, good, more) =
    subst (λ (d : List (ℕ × Repair)). IsLeft file bad all d (course_of new) line.number left) (sym more)
    (good_line file at bad all (done_of old) ended (course_of old) (course_of new) line lines left kept is good)

pub takes_bad : {T : Type 0} (file at : ℕ) (bad : Option Place) (all : List (ℕ × Repair)) (old : Reading) (line : Line) (lines left : List (ℕ × List ℕ)) (stop : Stop) (P : T → Type 0)
    → IsLeft file bad all (done_of old) (course_of old) at lines → lines ≡ as_numbered line ∷ left
    → TakesIn file line (course_of old) (done_of old) (Err stop) → JudgesUnlessNoMemory {T = T} bad (Err stop) P
takes_bad file at bad all old line lines left (Refused place) P kept is refused =
    bad_line file at bad all (done_of old) (course_of old) line lines left place kept is refused
takes_bad file at bad all old line lines left NoMemory P kept is refused = tt
