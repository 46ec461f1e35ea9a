-- What a reader of a branch text in pieces has read.
use Rattle.std.specs.Prelude.{◌≡◌, ℕ, ◌+◌, ◌-◌, List, ◌∷◌, ◌++◌, [], length, take, Option, None, Result}
use Rattle.std.specs.List.{flat_map}
use Rattle.refusal.specs.Place.{JudgesUnlessNoMemory}
use Rattle.refusal.specs.declared.place.Stop.{Stop}
use Rattle.text_model.specs.Laws.{ended, IsTextOf}
use Rattle.text_model.specs.Lines.{lines_of, ended_lines_of}
use Rattle.sample_model.specs.Judging.{first_bad_of_lines, first_bad_of_piece, lines_ended_by}
use Rattle.sample_model.specs.Limits.{max_line_bytes, max_text_bytes}
use Rattle.sample_model.specs.declared.load.Load.{Load}
use Rattle.sample_model.specs.Moves.{LoadMap}
use Rattle.branch_stacks.specs.Loads.{met_in, AddsLine}
use Rattle.branch_counts.specs.Tally.{Tally, Tells}
use Rattle.branch_stacks.specs.Text.{item_of_counted, TellsBefore}

-- What a reader shows: the file, what moves the addresses, if they are moved, how many lines have ended, the loads that
-- they tell of, what is kept of the open rest behind them, how many bytes there were, and what has ended the reading.
pub record Reading : Type 0 where
  pub file : ℕ
  pub loading : Option LoadMap
  pub ended_lines : ℕ
  pub met : List Load
  pub held : List ℕ
  pub size : ℕ
  pub stop : Option Stop

-- A reader that has read nothing, and moves addresses or leaves them as they stand.
abbrev pub new_reading_by : Option LoadMap → ℕ → Reading
new_reading_by loading file =
    record { file = file; loading = loading; ended_lines = 0; met = []; held = []; size = 0; stop = None }

-- The same where addresses stay.
abbrev pub new_reading : ℕ → Reading
new_reading file = new_reading_by None file

-- Of an open line one byte more is kept than a line may have, by which it is known to be too long.
abbrev pub held_of : List ℕ → List ℕ
held_of line = take (max_line_bytes + 1) line

-- A reader has read this text and goes on: its lines that have ended are good, and they are counted.
pub record HasRead (text : List ℕ) (reader : Reading) (tally : Tally) : Type 0 where
  pub rest : List ℕ
  pub split : IsTextOf text (ended_lines_of text) (lines_of text) rest
  pub goes_on : reader.stop ≡ None
  pub numbered : reader.ended_lines ≡ length (ended_lines_of text)
  pub met : reader.met ≡ met_in reader.loading (ended_lines_of text)
  pub held : reader.held ≡ held_of rest
  pub good : first_bad_of_lines reader.file (ended_lines_of text) ≡ None
  pub tells : Tells reader.loading (ended_lines_of text) tally

-- The reader behind a line that has ended.
abbrev pub behind_line : Reading → List ℕ → Reading
behind_line old line = record old {
  ended_lines = old.ended_lines + 1;
  met = old.met ++ met_in old.loading (line ∷ []);
  held = [];
}

-- The open line has ended and is this one: it was judged and counted, and no line is open any longer.
abbrev pub EndsLine : Reading → Tally → List ℕ → Result (Unit {0}) Stop → Reading → Tally → Type 0
EndsLine old before line result new after =
    JudgesUnlessNoMemory (item_of_counted old.file before (old.ended_lines + 1) line) result
    (λ _. AddsLine old.loading old.met before after line × (new ≡ behind_line old line))

-- How many bytes more are within the limit of a text's size.
abbrev pub room_of : Reading → ℕ
room_of reader = max_text_bytes - reader.size

-- Whatever text was read before, with these bytes behind it its lines that have ended are judged and counted.
abbrev pub ReadsMore : Reading → Tally → List ℕ → Result (Unit {0}) Stop → Reading → Tally → Type 0
ReadsMore old before more result new after =
    (text : List ℕ) → HasRead text old before
    → JudgesUnlessNoMemory (first_bad_of_lines old.file (ended_lines_of (text ++ more))) result
    (λ _. HasRead (text ++ more) new after)
    × TellsBefore old.loading old.file (ended_lines_of (text ++ more)) result after

-- The same of a piece that may pass the limit of the text's size, which is judged last.
abbrev pub Feeds : Reading → Tally → List ℕ → Result (Unit {0}) Stop → Reading → Tally → Type 0
Feeds old before piece result new after =
    (text : List ℕ) → HasRead text old before
    → JudgesUnlessNoMemory (first_bad_of_piece old.file text (room_of old) piece) result
    (λ _. HasRead (text ++ piece) new after)
    × TellsBefore old.loading old.file (lines_ended_by text (room_of old) piece) result after

-- The text with a line feed behind each of its lines, the last one too.
abbrev pub ended_text : List ℕ → List ℕ
ended_text text = flat_map ended (lines_of text)

-- The text has ended: an open rest is its last line, and what comes behind it begins a new one.
abbrev pub Finishes : Reading → Tally → Result (Unit {0}) Stop → Reading → Tally → Type 0
Finishes old before result new after =
    (text : List ℕ) → HasRead text old before
    → JudgesUnlessNoMemory (first_bad_of_lines old.file (lines_of text)) result
    (λ _. Tells old.loading (lines_of text) after × HasRead (ended_text text) new after)
    × TellsBefore old.loading old.file (lines_of text) result after
