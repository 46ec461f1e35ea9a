-- What `pgo-cold` says on the error output.
use Rattle.std.specs.Prelude.{ℕ, List, codes}
use Rattle.program_edge.specs.Status.{line_of}
use Rattle.program_edge.specs.declared.status.Status.{Status}

-- The line for words that ask for nothing that the program does.
abbrev pub usage_text : List ℕ
usage_text = codes "usage: pgo-cold [--base] BIN PROFILE, or profile [--map=NAME] [--base] BIN PERF\n"

-- The line on the error output, with its line feed; none where all went well.
abbrev pub text_of : Status → List ℕ
text_of status = line_of usage_text status
