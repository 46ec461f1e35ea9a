-- The codes and the texts of the statuses.
use Rattle.std.specs.Prelude.{ℕ, List, [], ◌++◌, codes}
use Rattle.refusal.specs.Kind.{word_of}
use Rattle.text_model.specs.Numbers.{decimal_text}
use Rattle.program_edge.specs.declared.status.Status.{Status}
use Rattle.program_edge.specs.declared.status.Status.TheVariants.{Done, CheckFailed, Usage, NoSuchFile, Refused, ReadFault, WriteFault, NoMemory}

-- The exit status of the program.
abbrev pub code_of : Status → ℕ
code_of Done = 0
code_of (CheckFailed line) = 1
code_of Usage = 2
code_of (NoSuchFile file) = 3
code_of (Refused place) = 4
code_of (ReadFault file) = 5
code_of WriteFault = 6
code_of NoMemory = 7

-- The line on the error output, with its line feed; none where all went well. That for words that spell no command is
-- the program's own.
abbrev pub line_of : List ℕ → Status → List ℕ
line_of usage Done = []
line_of usage (CheckFailed line) = codes "check failed at line " ++ decimal_text line ++ codes "\n"
line_of usage Usage = usage
line_of usage (NoSuchFile file) = codes "no such file: " ++ decimal_text file ++ codes "\n"
line_of usage (Refused place) =
    codes "refused: file " ++ decimal_text place.file ++ codes " at " ++ decimal_text place.at
    ++ codes ": " ++ word_of place.kind ++ codes "\n"
line_of usage (ReadFault file) = codes "read fault: file " ++ decimal_text file ++ codes "\n"
line_of usage WriteFault = codes "write fault\n"
line_of usage NoMemory = codes "no memory\n"
