-- What ends a command before its output is made, as an answer and as a status.
use Rattle.std.specs.Prelude.{ℕ, Option, None, Some, IfSome, Result, Ok, Err}
use Rattle.refusal.specs.declared.place.Stop.{Stop}
use Rattle.refusal.specs.declared.place.Stop.TheVariants as stop
use Rattle.command_model.specs.Answer.{Answer, fails_check, in_file, no_such_file, refused}
use Rattle.program_edge.specs.declared.halt.Halt.{Halt}
use Rattle.program_edge.specs.declared.halt.Halt.TheVariants as halt
use Rattle.program_edge.specs.declared.status.Status.{Status}
use Rattle.program_edge.specs.declared.status.Status.TheVariants.{CheckFailed, NoSuchFile, Refused, ReadFault, NoMemory}

-- What stopped the judge of the k-th file.
abbrev pub halt_of_stop : ℕ → Stop → Halt
halt_of_stop k (stop.Refused place) = halt.Refused (in_file k place)
halt_of_stop k stop.NoMemory = halt.NoMemory

-- The status that tells it.
abbrev pub status_of : Halt → Status
status_of (halt.NoSuchFile k) = NoSuchFile k
status_of (halt.Refused place) = Refused place
status_of (halt.CheckFailed line) = CheckFailed line
status_of (halt.ReadFault k) = ReadFault k
status_of halt.NoMemory = NoMemory

-- The answer that it gives, where the files are what ends the command, and not a fault or want of memory.
abbrev pub answer_in : Halt → Option Answer
answer_in (halt.NoSuchFile k) = Some (no_such_file k)
answer_in (halt.Refused place) = Some (refused place)
answer_in (halt.CheckFailed line) = Some (fails_check line)
answer_in (halt.ReadFault k) = None
answer_in halt.NoMemory = None

-- What holds of the answer, where there is one.
abbrev pub IfAnswers : Halt → (Answer → Type 0) → Type 0
IfAnswers halt P = IfSome (answer_in halt) P

-- What judging the k-th file gives.
abbrev pub judged_in : {T : Type 0} → ℕ → Result T Stop → Result T Halt
judged_in k (Ok x) = Ok x
judged_in k (Err stop) = Err (halt_of_stop k stop)
