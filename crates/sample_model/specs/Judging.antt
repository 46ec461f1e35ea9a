-- Which line of a branch text is its first bad place.
use Rattle.std.specs.Prelude.{ℕ, ◌+◌, ◌-◌, nat_lt, nat_le, not, ◌&&◌, List, [], ◌∷◌, ◌++◌, map, length, take, Option, is_none, if◌then◌else◌}
use Rattle.std.specs.List.{enumerate_from, prefix_len}
use Rattle.std.specs.Option.{option_map}
use Rattle.refusal.specs.declared.kind.Kind.{Kind}
use Rattle.refusal.specs.declared.kind.Kind.TheVariants.{LineTooLong, BadLine, TooManyEntries, TooManyBranches, FileTooLarge}
use Rattle.refusal.specs.declared.place.Place.{Place}
use Rattle.refusal.specs.Place.{first_bad, first_cause, fails_at, size_item}
use Rattle.text_model.specs.Lines.{lines_of, ended_lines_of}
use Rattle.sample_model.specs.Limits.{max_line_bytes, max_entries, max_branches, max_text_bytes}
use Rattle.sample_model.specs.Line.{is_sample, is_well_formed, branches_of_line}
use Rattle.sample_model.specs.Samples.{branches_of_lines}

-- Why a line is refused, given how many branches the lines before it have.
unfoldable pub cause_of_line : ℕ → List ℕ → Option Kind
cause_of_line before line = first_cause (
    (nat_lt max_line_bytes (length line), LineTooLong)
    ∷ (is_sample line && not (is_well_formed line), BadLine)
    ∷ (nat_lt max_entries (length (branches_of_line line)), TooManyEntries)
    ∷ (nat_lt max_branches (before + length (branches_of_line line)), TooManyBranches)
    ∷ [])

-- The item of a numbered line: its place, if it is refused.
abbrev pub item_of_line : ℕ → List (List ℕ) → ℕ × List ℕ → Option Place
item_of_line file lines (number, line) =
    option_map (λ kind. record { file = file; at = number; kind = kind })
    (cause_of_line (length (branches_of_lines (take (number - 1) lines))) line)

-- The lines as items, in order.
unfoldable pub items_of_lines : ℕ → List (List ℕ) → List (Option Place)
items_of_lines file lines = map (item_of_line file lines) (enumerate_from 1 lines)

-- The lines that end within the limit of the text's size.
unfoldable pub judged_lines_of : List ℕ → List (List ℕ)
judged_lines_of text =
    if nat_le (length text) max_text_bytes then lines_of text else ended_lines_of (take max_text_bytes text)

-- The items of a branch text: its lines, and last its size.
abbrev pub items_of_text : ℕ → List ℕ → List (Option Place)
items_of_text file text = items_of_lines file (judged_lines_of text) ++ size_item file max_text_bytes text ∷ []

-- The first bad place of a branch text.
abbrev pub first_bad_of_text : ℕ → List ℕ → Option Place
first_bad_of_text file text = first_bad (items_of_text file text)

-- The first bad place of lines.
abbrev pub first_bad_of_lines : ℕ → List (List ℕ) → Option Place
first_bad_of_lines file lines = first_bad (items_of_lines file lines)

-- The lines before the first bad one: all, where none is bad.
abbrev pub lines_before_bad : ℕ → List (List ℕ) → List (List ℕ)
lines_before_bad file lines = take (prefix_len is_none (items_of_lines file lines)) lines

-- A text may come in pieces. These lines have ended where a piece came behind the text so far, of which `room` bytes
-- are still within the limit of the text's size.
abbrev pub lines_ended_by : List ℕ → ℕ → List ℕ → List (List ℕ)
lines_ended_by text room piece = ended_lines_of (text ++ take room piece)

-- The items that can be judged by then, whatever comes behind: the lines that have ended, and last the size.
abbrev pub items_of_piece : ℕ → List ℕ → ℕ → List ℕ → List (Option Place)
items_of_piece file text room piece =
    items_of_lines file (lines_ended_by text room piece)
    ++ fails_at (nat_lt room (length piece)) (record { file = file; at = max_text_bytes; kind = FileTooLarge }) ∷ []

-- The first bad place by then.
abbrev pub first_bad_of_piece : ℕ → List ℕ → ℕ → List ℕ → Option Place
first_bad_of_piece file text room piece = first_bad (items_of_piece file text room piece)
