-- How far a block text was read.
use Rattle.std.specs.Prelude.{◌≡◌, ℕ, ◌+◌, ◌<◌, ◌^◌, ⊤, Bool, true, false, List, [], ◌∷◌, ◌++◌, length, Option, None, Some, Result, Ok, Err}
use Rattle.std.specs.Borrow.{Bor}
use Rattle.std.specs.List.{enumerate_from}
use Rattle.refusal.specs.declared.place.ItemStop.{ItemStop}
use Rattle.refusal.specs.declared.place.Place.{Place}
use Rattle.refusal.specs.declared.place.Stop.{Stop}
use Rattle.refusal.specs.declared.place.Stop.TheVariants.{Refused, NoMemory}
use Rattle.refusal.specs.Place.{first_bad, stop_on_line}
use Rattle.text_scan.specs.declared.lines.Line.{Line}
use Rattle.block_model.specs.Function.{Function, named}
use Rattle.block_model.specs.Judging.{cause_of_line, item, items_from}
use Rattle.block_model.specs.Line as model
use Rattle.block_model.specs.Text.{open_behind_line, closed_by_line, functions_from}
use Rattle.cfg_text.specs.declared.fun.Fun.{Fun}
use Rattle.cfg_text.specs.Fun.{function_of}

-- Lines are left behind the one of this number. Their first bad place is that of the whole text, and the functions
-- done and theirs are all functions.
pub record IsLeft
    (file : ℕ) (bad : Option Place) (all done : List Function) (opened : Option Function) (at : ℕ)
    (left : List (ℕ × List ℕ))
    : Type 0 where
  pub rest : List (List ℕ)
  pub numbered : left ≡ enumerate_from (at + 1) rest
  pub judged : bad ≡ first_bad (items_from file (at + 1) opened rest)
  pub spelled : all ≡ done ++ functions_from opened rest
  pub fits : at + length left + 1 < 2 ^ 64

-- Lines are left behind the one of this number, and the number behind the last of them fits 64 bits.
pub record IsNumbered (at : ℕ) (left : List (ℕ × List ℕ)) : Type 0 where
  pub rest : List (List ℕ)
  pub numbered : left ≡ enumerate_from (at + 1) rest
  pub fits : at + length left + 1 < 2 ^ 64

-- A line is good where this function is open before it, and leaves that one open and these closed.
pub record IsGoodLine (line : Line) (opened next : Option Function) (done : List Function) : Type 0 where
  pub good : cause_of_line opened (model.line_of line.bytes.now) ≡ None
  pub behind : open_behind_line opened (model.line_of line.bytes.now) ≡ next
  pub closed : closed_by_line opened (model.line_of line.bytes.now) ≡ done

-- The line's place, if it is refused.
abbrev pub item_of : ℕ → Line → Option Function → Option Place
item_of file line opened = item file line.number (cause_of_line opened (model.line_of line.bytes.now))

-- A line inside a function was taken in; it ends the function, or not.
abbrev pub TakesIn : ℕ → Line → Function → Result Bool Stop → Function → Type 0
TakesIn file line old (Ok false) new = IsGoodLine line (Some old) (Some new) []
TakesIn file line old (Ok true) new = IsGoodLine line (Some old) None (new ∷ [])
TakesIn file line old (Err (Refused place)) new = item_of file line (Some old) ≡ Some place
TakesIn file line old (Err NoMemory) new = ⊤

-- A line outside all functions begins one of this name, or none.
abbrev pub Begins : ℕ → Line → Result (Option (Bor (List ℕ))) Place → Type 0
Begins file line (Ok (Some name)) = IsGoodLine line None (Some (named name.now)) []
Begins file line (Ok None) = IsGoodLine line None None []
Begins file line (Err place) = item_of file line None ≡ Some place

-- A function was read from where it is open to behind its end, or up to a bad line.
abbrev pub ReadsFunction : ℕ → Function → ℕ → List (ℕ × List ℕ) → Result Fun Stop → List (ℕ × List ℕ) → Type 0
ReadsFunction file opened at old (Ok fun) new =
    (bad : Option Place) (all done : List Function) → IsLeft file bad all done (Some opened) at old
    → (last : ℕ) × IsLeft file bad all (done ++ function_of fun ∷ []) None last new
ReadsFunction file opened at old (Err (Refused place)) new =
    (bad : Option Place) (all done : List Function) → IsLeft file bad all done (Some opened) at old → bad ≡ Some place
ReadsFunction file opened at old (Err NoMemory) new = ⊤

-- What a line that was added, or was not, means for the text.
abbrev pub goes_on_at : ℕ → ℕ → Result (Unit {0}) ItemStop → Result Bool Stop
goes_on_at file at (Ok done) = Ok false
goes_on_at file at (Err stop) = Err (stop_on_line file at stop)
