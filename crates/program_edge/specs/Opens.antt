-- How many files a command opened, by what it came to.
use Rattle.std.specs.Prelude.{◌≡◌, ◌≤◌, ◌<◌, ◌-◌, ℕ, zero, suc, Bool, true, false, List, length, take, count_by, slice_get, IsSomeAnd, Result, Ok, Err}
use Rattle.io_edge.specs.Faults.{raised}
use Rattle.command_model.specs.Command.{Command}
use Rattle.command_model.specs.Files.{Asked, Source, named, made, files_of}
use Rattle.program_edge.specs.Halt.{status_of}
use Rattle.program_edge.specs.declared.halt.Halt.{Halt}
use Rattle.program_edge.specs.declared.status.Status.{Status}
use Rattle.program_edge.specs.declared.status.Status.TheVariants.{Done, CheckFailed, Usage, NoSuchFile, Refused, ReadFault, WriteFault, NoMemory}

-- A count of opens, after so many more.
abbrev pub opens_behind : ℕ → ℕ → ℕ
opens_behind opens zero = opens
opens_behind opens (suc more) = raised (opens_behind opens more)

-- A file of the store is opened, and one that the program makes is not.
abbrev pub is_named : Source → Bool
is_named (named name) = true
is_named (made bytes) = false

-- How many of these files are opened.
abbrev pub opens_of : List Asked → ℕ
opens_of asked = count_by (λ file. is_named file.source) asked

-- All files of the command were opened.
abbrev pub ReachesAll : Command → ℕ → ℕ → Type 0
ReachesAll command opens opens_after = opens_after ≡ opens_behind opens (opens_of (files_of command))

-- k is the number of one of the command's files, and the files up to it were opened.
pub record Reaches (command : Command) (k opens opens_after : ℕ) : Type 0 where
  pub first : 0 < k
  pub last : k ≤ length (files_of command)
  pub opened : opens_after ≡ opens_behind opens (opens_of (take k (files_of command)))

-- k is the number of a file that the command names, and the files up to it were opened. The program never opens one
-- that it makes.
pub record ReachesNamed (command : Command) (k opens opens_after : ℕ) : Type 0 where
  pub reached : Reaches command k opens opens_after
  pub is_named : IsSomeAnd (slice_get (files_of command) (k - 1)) (λ file. is_named file.source ≡ true)

-- The files up to some one of the command's were opened.
abbrev pub ReachesSome : Command → ℕ → ℕ → Type 0
ReachesSome command opens opens_after =
    (k : ℕ) × (k ≤ length (files_of command))
    × (opens_after ≡ opens_behind opens (opens_of (take k (files_of command))))

-- As many files were opened as the status tells: all that the command has where they were good, those up to a file
-- that is missing, bad or could not be read, and those up to some file where memory was refused. A file that is missing
-- or could not be read is one that the command names. A command is no `Usage`.
abbrev pub AgreesWithOpens : Command → Status → ℕ → ℕ → Type 0
AgreesWithOpens command Done opens opens_after = ReachesAll command opens opens_after
AgreesWithOpens command (CheckFailed line) opens opens_after = ReachesAll command opens opens_after
AgreesWithOpens command WriteFault opens opens_after = ReachesAll command opens opens_after
AgreesWithOpens command (NoSuchFile k) opens opens_after = ReachesNamed command k opens opens_after
AgreesWithOpens command (ReadFault k) opens opens_after = ReachesNamed command k opens opens_after
AgreesWithOpens command (Refused place) opens opens_after = Reaches command place.file opens opens_after
AgreesWithOpens command NoMemory opens opens_after = ReachesSome command opens opens_after
AgreesWithOpens command Usage opens opens_after = ⊥

-- The same before the first write: with an output, or what ends the command without one.
abbrev pub HasOpened : {A : Type 0} → Command → Result A Halt → ℕ → ℕ → Type 0
HasOpened command (Ok output) opens opens_after = AgreesWithOpens command Done opens opens_after
HasOpened command (Err halt) opens opens_after = AgreesWithOpens command (status_of halt) opens opens_after
