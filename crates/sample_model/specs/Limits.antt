-- The limits of a branch text.
use Rattle.std.specs.Prelude.{ℕ, ◌-◌, ◌^◌}

-- The most bytes of a line, its line feed not counted.
-- Why: The limit holds for comments and blank lines too, so that no line is scanned without a bound. The LF is no byte
-- of the line.
abbrev pub max_line_bytes : ℕ
max_line_bytes = 65536

-- The most branches of one sample.
abbrev pub max_entries : ℕ
max_entries = 1024

-- The most branches of a text.
abbrev pub max_branches : ℕ
max_branches = 2 ^ 32 - 1

-- The most bytes of a text.
-- Why: A text is read line by line and its size is judged last, so a bad line before a failing read is `Refused`.
abbrev pub max_text_bytes : ℕ
max_text_bytes = 2 ^ 40
