-- What reading a line leaves to read.
use Rattle.std.proofs.Common.{◌≡◌, ℕ, ◌<◌, ◌+◌, ◌^◌, Bool, true, false, List, [], ◌∷◌, ◌++◌, length, map, Option, Some, None, refl, arith, sym, ◌∙◌, ap, subst, append_assoc}
use Rattle.std.specs.Prelude.{◌==◌, is_some, Result, Ok, Err}
use Rattle.std.proofs.lemmas.List.{append-nil, map-append}
use Rattle.refusal.specs.declared.kind.Kind.TheVariants.{NoEndLine, BadLine, NoBlocks}
use Rattle.refusal.specs.declared.place.ItemStop.{ItemStop}
use Rattle.refusal.specs.declared.place.ItemStop.TheVariants as item_stops
use Rattle.refusal.specs.declared.place.Place.{Place}
use Rattle.refusal.specs.declared.kind.Kind.{Kind}
use Rattle.refusal.specs.declared.place.Stop.{Stop}
use Rattle.refusal.specs.declared.place.Stop.TheVariants.{Refused, NoMemory}
use Rattle.refusal.specs.Place.{first_bad, fails_at, JudgesItem, JudgesUnlessNoMemory}
use Rattle.text_model.specs.Lines.{lines_of}
use Rattle.text_model.proofs.LawLemmas.{lines_fewer}
use Rattle.text_scan.specs.declared.lines.Line.{Line}
use Rattle.text_scan.specs.Lines.{as_numbered, numbered_lines}
use Rattle.text_scan.proofs.LineLemmas.{first_of, no_rest, length-enumerated}
use Rattle.block_model.specs.declared.parts.Block.{Block}
use Rattle.block_model.specs.declared.parts.Bound.{Bound}
use Rattle.block_model.specs.Function.{Function, named, with_block, with_edge}
use Rattle.block_model.specs.Judging.{cause_of_line, cause_of_block, cause_of_edge, item, items_from, first_bad_of_text}
use Rattle.block_model.specs.Line as model
use Rattle.block_model.specs.Text.{open_behind, closed_by, open_behind_line, closed_by_line, functions_from, functions_of}
use Rattle.cfg_text.specs.Fun.{function_of}
use Rattle.cfg_text.specs.Reading.{IsLeft, IsNumbered, IsGoodLine, item_of, TakesIn, ReadsFunction, goes_on_at}
use Rattle.cfg_text.specs.declared.fun.Fun.{Fun}

-- ---- the definitions, one line at a time

items-line : (file number : ℕ) (opened : Option Function) (line : List ℕ) (lines : List (List ℕ))
    → items_from file number opened (line ∷ lines) ≡ item file number (cause_of_line opened (model.line_of line)) ∷ items_from file (number + 1) (open_behind_line opened (model.line_of line)) lines
unfolding items_from
items-line file number opened line lines = refl

functions-line : (opened : Option Function) (line : List ℕ) (lines : List (List ℕ))
    → functions_from opened (line ∷ lines) ≡ closed_by_line opened (model.line_of line) ++ functions_from (open_behind_line opened (model.line_of line)) lines
unfolding functions_from
functions-line opened line lines = refl

-- ---- one line

judged_next : (file at number : ℕ) (opened next : Option Function) (more : List Function) (line : Line) (rest others : List (List ℕ))
    → rest ≡ line.bytes.now ∷ others → number ≡ at + 1 → IsGoodLine line opened next more
    → first_bad (items_from file (at + 1) opened rest) ≡ first_bad (items_from file (number + 1) next others)
judged_next file at number opened next more line rest others split is good =
    rw (split, items-line file (at + 1) opened line.bytes.now others, good.good, good.behind, is)

spelled_next : (done more : List Function) (opened next : Option Function) (line : Line) (rest others : List (List ℕ))
    → rest ≡ line.bytes.now ∷ others → IsGoodLine line opened next more → done ++ functions_from opened rest ≡ (done ++ more) ++ functions_from next others
spelled_next done more opened next line rest others split good =
    rw (split, functions-line opened line.bytes.now others, good.closed, good.behind) (sym (append_assoc done more (functions_from next others)))

pub next_numbered : (at : ℕ) (line : Line) (old left : List (ℕ × List ℕ)) → IsNumbered at old → old ≡ as_numbered line ∷ left → IsNumbered line.number left
next_numbered at line old left kept is =
    let first = first_of at kept.rest line old left kept.numbered is in
    record { rest = first.others; numbered = first.behind; fits = omega (arith, kept.fits, ap length is, first.number) }

pub numbered_of : (file at : ℕ) (bad : Option Place) (all done : List Function) (opened : Option Function) (left : List (ℕ × List ℕ))
    → IsLeft file bad all done opened at left → IsNumbered at left
numbered_of file at bad all done opened left kept = record { rest = kept.rest; numbered = kept.numbered; fits = kept.fits }

pub good_line : (file at : ℕ) (bad : Option Place) (all done more : List Function) (opened next : Option Function) (line : Line) (old left : List (ℕ × List ℕ))
    → IsLeft file bad all done opened at old → old ≡ as_numbered line ∷ left → IsGoodLine line opened next more
    → IsLeft file bad all (done ++ more) next line.number left
good_line file at bad all done more opened next line old left kept is good =
    let first = first_of at kept.rest line old left kept.numbered is in
    record {
      rest = first.others;
      numbered = first.behind;
      judged = kept.judged ∙ judged_next file at line.number opened next more line kept.rest first.others first.split first.number good;
      spelled = kept.spelled ∙ spelled_next done more opened next line kept.rest first.others first.split good;
      fits = omega (arith, kept.fits, ap length is, first.number);
    }

pub same_line : (file at : ℕ) (bad : Option Place) (all done : List Function) (opened next : Option Function) (line : Line) (old left : List (ℕ × List ℕ))
    → IsLeft file bad all done opened at old → old ≡ as_numbered line ∷ left → IsGoodLine line opened next []
    → IsLeft file bad all done next line.number left
same_line file at bad all done opened next line old left kept is good =
    subst (λ (fs : List Function). IsLeft file bad all fs next line.number left) (append-nil done)
    (good_line file at bad all done [] opened next line old left kept is good)

pub bad_line : (file at : ℕ) (bad : Option Place) (all done : List Function) (opened : Option Function) (line : Line) (old left : List (ℕ × List ℕ)) (place : Place)
    → IsLeft file bad all done opened at old → old ≡ as_numbered line ∷ left → item_of file line opened ≡ Some place → bad ≡ Some place
bad_line file at bad all done opened line old left place kept is refused =
    let first = first_of at kept.rest line old left kept.numbered is in
    let here = rw first.number at refused in
    kept.judged ∙ rw (first.split, items-line file (at + 1) opened line.bytes.now first.others, here)

-- ---- the end

items-end : (file number : ℕ) (opened : Option Function) → items_from file number opened [] ≡ fails_at (is_some opened) (record { file = file; at = number; kind = NoEndLine }) ∷ []
unfolding items_from
items-end file number opened = refl

functions-end : (opened : Option Function) → functions_from opened [] ≡ []
unfolding functions_from
functions-end opened = refl

pub end_inside : (file at : ℕ) (bad : Option Place) (all done : List Function) (fun : Function) (left : List (ℕ × List ℕ))
    → IsLeft file bad all done (Some fun) at left → left ≡ [] → bad ≡ Some (record { file = file; at = at + 1; kind = NoEndLine })
end_inside file at bad all done fun left kept none =
    let over = no_rest (at + 1) kept.rest (sym none ∙ kept.numbered) in
    kept.judged ∙ rw (over, items-end file (at + 1) (Some fun))

pub end_outside : (file at : ℕ) (bad : Option Place) (all done : List Function) (left : List (ℕ × List ℕ))
    → IsLeft file bad all done None at left → left ≡ [] → (bad ≡ None) × (done ≡ all)
end_outside file at bad all done left kept none =
    let over = no_rest (at + 1) kept.rest (sym none ∙ kept.numbered) in
    (kept.judged ∙ rw (over, items-end file (at + 1) None), sym (kept.spelled ∙ rw (over, functions-end None) (append-nil done)))

-- ---- the start

pub all_left : (file : ℕ) (text : List ℕ) (left : List (ℕ × List ℕ)) → left ≡ numbered_lines text → length text < 2 ^ 63
    → IsLeft file (first_bad_of_text file text) (functions_of text) [] None 0 left
all_left file text left is fits = record {
  rest = lines_of text;
  numbered = is;
  judged = refl;
  spelled = refl;
  fits = omega (arith, fits, lines_fewer text, ap length is, length-enumerated 1 (lines_of text));
}

-- ---- what a line says

pub good_said : (line : Line) (opened : Option Function) (said : model.Line) → Some said ≡ model.line_of line.bytes.now → cause_of_line opened (Some said) ≡ None
    → IsGoodLine line opened (open_behind opened said) (closed_by opened said)
good_said line opened said told good = record {
  good = ap (cause_of_line opened) (sym told) ∙ good;
  behind = ap (open_behind_line opened) (sym told);
  closed = ap (closed_by_line opened) (sym told);
}

pub bad_said : (file : ℕ) (line : Line) (opened : Option Function) (said : Option model.Line) (kind : Kind) → said ≡ model.line_of line.bytes.now → cause_of_line opened said ≡ Some kind
    → item_of file line opened ≡ Some (record { file = file; at = line.number; kind = kind })
bad_said file line opened said kind told bad = ap (λ (o : Option Kind). item file line.number o) (ap (cause_of_line opened) (sym told) ∙ bad)

pub passes : (line : Line) (opened : Option Function) → Some model.passed ≡ model.line_of line.bytes.now → IsGoodLine line opened opened []
unfolding cause_of_line
passes line None told = good_said line None model.passed told refl
passes line (Some fun) told = good_said line (Some fun) model.passed told refl

pub begins_here : (line : Line) (name : List ℕ) → Some (model.begins name) ≡ model.line_of line.bytes.now → IsGoodLine line None (Some (named name)) []
unfolding cause_of_line
begins_here line name told = good_said line None (model.begins name) told refl

pub no_line : (file : ℕ) (line : Line) (opened : Option Function) → None ≡ model.line_of line.bytes.now
    → item_of file line opened ≡ Some (record { file = file; at = line.number; kind = BadLine })
unfolding cause_of_line
no_line file line None told = bad_said file line None None BadLine told refl
no_line file line (Some fun) told = bad_said file line (Some fun) None BadLine told refl

pub block_outside : (file : ℕ) (line : Line) (number : ℕ) (block : Block) → Some (model.tells_block number block) ≡ model.line_of line.bytes.now
    → item_of file line None ≡ Some (record { file = file; at = line.number; kind = BadLine })
unfolding cause_of_line
block_outside file line number block told = bad_said file line None (Some (model.tells_block number block)) BadLine told refl

pub edge_outside : (file : ℕ) (line : Line) (from to : ℕ) (bound : Bound) → Some (model.tells_edge from to bound) ≡ model.line_of line.bytes.now
    → item_of file line None ≡ Some (record { file = file; at = line.number; kind = BadLine })
unfolding cause_of_line
edge_outside file line from to bound told = bad_said file line None (Some (model.tells_edge from to bound)) BadLine told refl

pub end_alone : (file : ℕ) (line : Line) → Some model.ends ≡ model.line_of line.bytes.now
    → item_of file line None ≡ Some (record { file = file; at = line.number; kind = BadLine })
unfolding cause_of_line
end_alone file line told = bad_said file line None (Some model.ends) BadLine told refl

pub begins_inside : (file : ℕ) (line : Line) (fun : Function) (name : List ℕ) → Some (model.begins name) ≡ model.line_of line.bytes.now
    → item_of file line (Some fun) ≡ Some (record { file = file; at = line.number; kind = BadLine })
unfolding cause_of_line
begins_inside file line fun name told = bad_said file line (Some fun) (Some (model.begins name)) BadLine told refl

pub ends_empty : (file : ℕ) (line : Line) (fun : Function) → Some model.ends ≡ model.line_of line.bytes.now → true ≡ (length fun.blocks == 0)
    → item_of file line (Some fun) ≡ Some (record { file = file; at = line.number; kind = NoBlocks })
unfolding cause_of_line
ends_empty file line fun told none = bad_said file line (Some fun) (Some model.ends) NoBlocks told (rw (sym none))

pub ends_here : (line : Line) (fun : Function) → Some model.ends ≡ model.line_of line.bytes.now → false ≡ (length fun.blocks == 0)
    → IsGoodLine line (Some fun) None (fun ∷ [])
unfolding cause_of_line
ends_here line fun told some = good_said line (Some fun) model.ends told (rw (sym some))

pub block_taken : (file : ℕ) (line : Line) (old new : Function) (number : ℕ) (block : Block) (added : Result (Unit {0}) ItemStop) (r : Result Bool Stop)
    → Some (model.tells_block number block) ≡ model.line_of line.bytes.now → JudgesItem (cause_of_block old number block) added (new ≡ with_block old block)
    → r ≡ goes_on_at file line.number added → TakesIn file line old r new
unfolding cause_of_line
block_taken file line old new number block (Ok done) r told judged is =
    rw is (subst (λ (f : Function). IsGoodLine line (Some old) (Some f) []) (sym judged.1) (good_said line (Some old) (model.tells_block number block) told judged.0))
block_taken file line old new number block (Err (item_stops.Refused kind)) r told judged is =
    rw is (bad_said file line (Some old) (Some (model.tells_block number block)) kind told judged)
block_taken file line old new number block (Err item_stops.NoMemory) r told judged is = rw is tt

pub edge_taken : (file : ℕ) (line : Line) (old new : Function) (from to : ℕ) (bound : Bound) (added : Result (Unit {0}) ItemStop) (r : Result Bool Stop)
    → Some (model.tells_edge from to bound) ≡ model.line_of line.bytes.now
    → JudgesItem (cause_of_edge old from to bound) added (new ≡ with_edge old (record { from = from; to = to; bound = bound }))
    → r ≡ goes_on_at file line.number added → TakesIn file line old r new
unfolding cause_of_line
edge_taken file line old new from to bound (Ok done) r told judged is =
    rw is (subst (λ (f : Function). IsGoodLine line (Some old) (Some f) []) (sym judged.1) (good_said line (Some old) (model.tells_edge from to bound) told judged.0))
edge_taken file line old new from to bound (Err (item_stops.Refused kind)) r told judged is =
    rw is (bad_said file line (Some old) (Some (model.tells_edge from to bound)) kind told judged)
edge_taken file line old new from to bound (Err item_stops.NoMemory) r told judged is = rw is tt

-- ---- a function

-- so far every text whose rest was left where the function began has this rest left
abbrev pub Keeps : ℕ → Function → ℕ → List (ℕ × List ℕ) → Function → ℕ → List (ℕ × List ℕ) → Type 0
Keeps file first at old fun last left =
    (bad : Option Place) (all done : List Function) → IsLeft file bad all done (Some first) at old → IsLeft file bad all done (Some fun) last left

pub stopped_at : (file at last : ℕ) (first fun new : Function) (line : Line) (old left rest : List (ℕ × List ℕ)) (stop : Stop)
    → Keeps file first at old fun last left → left ≡ as_numbered line ∷ rest → TakesIn file line fun (Err stop) new → ReadsFunction file first at old (Err stop) rest
stopped_at file at last first fun new line old left rest (Refused place) keeps is takes =
    λ bad all done kept. bad_line file last bad all done (Some fun) line left rest place (keeps bad all done kept) is takes
stopped_at file at last first fun new line old left rest NoMemory keeps is takes = tt

pub ended_at : (file at last : ℕ) (first fun new : Function) (line : Line) (old left rest : List (ℕ × List ℕ)) (read : Fun)
    → Keeps file first at old fun last left → left ≡ as_numbered line ∷ rest → TakesIn file line fun (Ok true) new → function_of read ≡ new
    → ReadsFunction file first at old (Ok read) rest
ended_at file at last first fun new line old left rest read keeps is takes same =
    λ bad all done kept. (line.number, rw same (good_line file last bad all done (new ∷ []) (Some fun) None line left rest (keeps bad all done kept) is takes))

pub keeps_on : (file at last : ℕ) (first fun new : Function) (line : Line) (old left rest : List (ℕ × List ℕ))
    → Keeps file first at old fun last left → left ≡ as_numbered line ∷ rest → TakesIn file line fun (Ok false) new
    → Keeps file first at old new line.number rest
keeps_on file at last first fun new line old left rest keeps is takes =
    λ bad all done kept. same_line file last bad all done (Some fun) (Some new) line left rest (keeps bad all done kept) is takes

-- ---- the functions of a text

pub stopped_in : {T : Type 0} (file at : ℕ) (bad : Option Place) (all done : List Function) (fun : Function) (old new : List (ℕ × List ℕ)) (stop : Stop) (P : T → Type 0)
    → IsLeft file bad all done (Some fun) at old → ReadsFunction file fun at old (Err stop) new → JudgesUnlessNoMemory {T = T} bad (Err stop) P
stopped_in file at bad all done fun old new (Refused place) P kept reads = reads bad all done kept
stopped_in file at bad all done fun old new NoMemory P kept reads = tt

pub one_more : (file : ℕ) (bad : Option Place) (all : List Function) (funs more : List Fun) (fun : Fun) (last : ℕ) (left : List (ℕ × List ℕ))
    → more ≡ funs ++ fun ∷ [] → IsLeft file bad all (map function_of funs ++ function_of fun ∷ []) None last left
    → IsLeft file bad all (map function_of more) None last left
one_more file bad all funs more fun last left is kept =
    subst (λ (fs : List Function). IsLeft file bad all fs None last left) (sym (ap (map function_of) is ∙ map-append function_of funs (fun ∷ []))) kept
