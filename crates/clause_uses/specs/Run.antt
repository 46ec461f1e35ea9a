-- What a run over files and a sink in memory gives, in plain words.
use Rattle.std.specs.Prelude.{◌≡◌, ◌⊎◌, ◌<◌, ◌≤◌, ◌-◌, ℕ, List, ◌++◌, Option, None, Some, IsSomeAnd, slice_get}
use Rattle.std.specs.Global.{Vec}
use Rattle.sample_model.specs.Samples.{branches_of}
use Rattle.io_edge.specs.MemoryInputs.{InputsInMemory, stored}
use Rattle.io_edge.specs.MemorySink.{SinkInMemory}
use Rattle.command_model.specs.Answer.{Answer, answer_of, writes}
use Rattle.command_model.specs.Command.{Command, command_of}
use Rattle.command_model.specs.Files.{IsOutput, files_of, first_bad_of_blocks, named}
use Rattle.command_model.specs.Counts.{counts_text}
use Rattle.command_words.specs.Words.{texts_of}
use Rattle.program_edge.specs.declared.status.Status.{Status}
use Rattle.program_edge.specs.declared.status.Status.TheVariants.{Done, CheckFailed, Usage, NoSuchFile, Refused, ReadFault, WriteFault, NoMemory}

-- The command that the words spell, if they spell one.
abbrev pub command_in : List (Vec ℕ) → Option Command
command_in words = command_of (texts_of words)

-- The answer to the words over these files.
abbrev pub answer_in : InputsInMemory → List (Vec ℕ) → Answer
answer_in inputs words = answer_of (stored inputs.files) (texts_of words)

-- No call on the files or on the sink has failed.
abbrev pub NoneFailed : InputsInMemory → SinkInMemory → Type 0
NoneFailed inputs out = (inputs.faults ≡ 0) × (out.faults ≡ 0)

-- The status is the one or the other.
abbrev pub IsEither : Status → Status → Status → Type 0
IsEither status one other = (status ≡ one) ⊎ (status ≡ other)

-- The answer is to write an output.
abbrev pub IsToWrite : Answer → Type 0
IsToWrite answer = (command : Command) × (contents : List (List ℕ)) × (answer ≡ writes command contents)

-- The sink has these bytes after those that it had.
abbrev pub GrowsBy : SinkInMemory → SinkInMemory → List ℕ → Type 0
GrowsBy old new bytes = new.written ≡ old.written ++ bytes

-- The sink got the counted branches of a file with these bytes.
abbrev pub GrowsByCounts : SinkInMemory → SinkInMemory → List ℕ → Type 0
GrowsByCounts old new bytes = GrowsBy old new (counts_text (branches_of bytes))

-- The sink got all of an output of the command on files with these contents.
pub record GetsOutput (old new : SinkInMemory) (command : Command) (contents : List (List ℕ)) : Type 0 where
  pub text : List ℕ
  pub is_output : IsOutput command contents text
  pub grows : GrowsBy old new text

-- The sink got the first part of such an output; the rest is missing.
pub record GetsFirstPart (old new : SinkInMemory) (command : Command) (contents : List (List ℕ)) : Type 0 where
  pub part : List ℕ
  pub rest : List ℕ
  pub is_output : IsOutput command contents (part ++ rest)
  pub grows : GrowsBy old new part

-- The command names a file of this number, counted from 1.
pub record NamesFile (command : Command) (k : ℕ) : Type 0 where
  pub name : List ℕ
  pub counted : 0 < k
  pub named_so : IsSomeAnd (slice_get (files_of command) (k - 1)) (λ file. file.source ≡ named name)

-- k is the first or the second of two files, and as many were opened.
abbrev pub IsLastOpened : ℕ → ℕ → Type 0
IsLastOpened k opens = (opens ≡ k) × ((k ≡ 1) ⊎ (k ≡ 2))

-- The status of a command with two files fits how many of them were opened.
abbrev pub FitsOpensOfTwo : Status → ℕ → Type 0
FitsOpensOfTwo Done opens = opens ≡ 2
FitsOpensOfTwo (CheckFailed line) opens = opens ≡ 2
FitsOpensOfTwo Usage opens = ⊥
FitsOpensOfTwo (NoSuchFile k) opens = IsLastOpened k opens
FitsOpensOfTwo (Refused place) opens = IsLastOpened place.file opens
FitsOpensOfTwo (ReadFault k) opens = IsLastOpened k opens
FitsOpensOfTwo WriteFault opens = opens ≡ 2
FitsOpensOfTwo NoMemory opens = opens ≤ 2

-- A file of this name is there, and is a good block file.
pub record IsGoodBlockFile (inputs : InputsInMemory) (name : List ℕ) : Type 0 where
  pub bytes : List ℕ
  pub there : stored inputs.files name ≡ Some bytes
  pub good : first_bad_of_blocks 1 bytes ≡ None
