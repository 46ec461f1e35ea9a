-- What a command comes to over a store of files, where no call fails and memory suffices.
use Rattle.std.specs.Prelude.{ℕ, ◌+◌, List, [], ◌∷◌, ◌++◌, length, Option, None, Some}
use Rattle.refusal.specs.declared.place.Place.{Place}
use Rattle.io_edge.specs.Inputs.{Store}
use Rattle.command_model.specs.Command.{Command, command_of}
use Rattle.command_model.specs.Files.{Asked, Source, named, made, files_of, failed_line}

-- What a command comes to.
-- Why: The line of a failed check is an answer for every command, so that the clauses of `run` stay as they are.
pub data Answer : Type 0 where
  -- The words spell no command.
  usage : Answer
  -- The store has no file for the k-th file word.
  no_such_file : ℕ → Answer
  -- The first bad place of the files, in their order.
  refused : Place → Answer
  -- All files are there and good, and this line is the first that fails a check.
  fails_check : ℕ → Answer
  -- All files are there and good, with these bytes, and no line fails a check: the command has an output to be written.
  writes : Command → List (List ℕ) → Answer

-- The bytes of a file, if it is there.
abbrev pub bytes_of : Store → Source → Option (List ℕ)
bytes_of files (named name) = files name
bytes_of files (made bytes) = Some bytes

-- A place of the k-th file.
abbrev pub in_file : ℕ → Place → Place
in_file k place = record { file = k; at = place.at; kind = place.kind }

-- A file that was judged: its first bad place is told, and only a good file leads on.
abbrev pub unless_bad : ℕ → Option Place → Answer → Answer
unless_bad k None next = next
unless_bad k (Some place) next = refused (in_file k place)

-- The k-th file: it is missing, or there and judged.
abbrev pub with_file : ℕ → Option (List ℕ) → (List ℕ → Option Place) → (List ℕ → Answer) → Answer
with_file k None judge next = no_such_file k
with_file k (Some bytes) judge next = unless_bad k (judge bytes) (next bytes)

-- What these files come to, one behind the other, behind good ones of these bytes.
abbrev pub answer_behind : Store → (List (List ℕ) → Answer) → List (List ℕ) → List Asked → Answer
answer_behind files next before [] = next before
answer_behind files next before (asked ∷ rest) =
    with_file (length before + 1) (bytes_of files asked.source) (asked.judge before)
    (λ bytes. answer_behind files next (before ++ bytes ∷ []) rest)

-- A line that fails a check is told, and else there is an output.
abbrev pub unless_failed : Option ℕ → Answer → Answer
unless_failed None next = next
unless_failed (Some line) next = fails_check line

-- What a command comes to where all its files are good and have these bytes.
abbrev pub answer_of_good : Command → List (List ℕ) → Answer
answer_of_good command contents = unless_failed (failed_line command contents) (writes command contents)

-- What a command comes to over these files.
abbrev pub answer_of_command : Store → Command → Answer
answer_of_command files command = answer_behind files (answer_of_good command) [] (files_of command)

-- The answer where the words may spell no command.
abbrev pub answer_of_words : Store → Option Command → Answer
answer_of_words files None = usage
answer_of_words files (Some command) = answer_of_command files command

-- The answer to the words.
abbrev pub answer_of : Store → List (List ℕ) → Answer
answer_of files words = answer_of_words files (command_of words)
