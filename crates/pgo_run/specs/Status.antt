-- The texts of the statuses of `pgo`.
use Rattle.std.specs.Prelude.{ℕ, List, codes}
use Rattle.program_edge.specs.Status.{line_of}
use Rattle.program_edge.specs.declared.status.Status.{Status}

-- The line for words that spell no command.
abbrev pub usage_text : List ℕ
usage_text = codes "usage: pgo counts, where, profile, build, check, make, merge, summary or lift\n"

-- The line on the error output, with its line feed; none where all went well.
abbrev pub text_of : Status → List ℕ
text_of status = line_of usage_text status
