-- What is made before the first write: the output, or what ends the command without it.
use Rattle.std.specs.Prelude.{◌≡◌, ℕ, ⊤, Bool, true, false, List, Option, None, Some, IfSome, Result, Ok, Err}
use Rattle.refusal.specs.declared.place.Place.{Place}
use Rattle.refusal.specs.Place.{size_item}
use Rattle.std.specs.Global.{Vec}
use Rattle.io_edge.specs.Faults.{HasCauseWhere, raised}
use Rattle.io_edge.specs.Inputs.{Store}
use Rattle.command_model.specs.Answer.{Answer, answer_of_command, no_such_file, unless_bad, with_file, writes}
use Rattle.command_model.specs.Command.{Command}
use Rattle.command_model.specs.Files.{IsOutput}
use Rattle.command_model.specs.Good.{AreGoodBefore}
use Rattle.program_edge.specs.Halt.{IfAnswers}
use Rattle.program_edge.specs.Opens.{HasOpened}
use Rattle.program_edge.specs.declared.halt.Halt.{Halt}
use Rattle.program_edge.specs.declared.halt.Halt.TheVariants.{CheckFailed, NoSuchFile, Refused, ReadFault}

-- Whatever comes behind the k-th file, of which this place is the first bad one, if there is one: the answer is this.
abbrev pub EndsJudged : ℕ → Option Place → Answer → Type 0
EndsJudged k bad answer = (next : Answer) → unless_bad k bad next ≡ answer

-- Whatever comes behind the k-th file, which is there or not and is judged so: the answer is this.
abbrev pub EndsAt : ℕ → Option (List ℕ) → (List ℕ → Option Place) → Answer → Type 0
EndsAt k file judge answer = (next : List ℕ → Answer) → with_file k file judge next ≡ answer

-- The k-th file, if the store has it, was opened, and all its bytes are left; or the answer is that it is missing.
abbrev pub OpensFile : Option (List ℕ) → ℕ → Result (Unit {0}) Halt → Option (List ℕ) → Type 0
OpensFile file k (Ok done) left = (bytes : List ℕ) × (file ≡ Some bytes) × (left ≡ Some bytes)
OpensFile file k (Err halt) left = IfAnswers halt (λ answer. (file ≡ None) × (answer ≡ no_such_file k))

-- The k-th file, if the store has it, was read whole and its size is good; or what this ends the command with.
abbrev pub ReadsFile : ℕ → ℕ → Option (List ℕ) → Result (Vec ℕ) Halt → Type 0
ReadsFile k limit file (Ok bytes) = (file ≡ Some bytes.items) × (size_item k limit bytes.items ≡ None)
ReadsFile k limit file (Err halt) = IfAnswers halt (EndsAt k file (size_item k limit))

-- What was made is an output of the command on files that are there and good, or the files give another answer; a fault
-- or want of memory may come in its place.
abbrev pub Makes : Store → Command → Result (Vec ℕ) Halt → Type 0
Makes files command (Ok text) =
    (contents : List (List ℕ)) × (answer_of_command files command ≡ writes command contents)
    × IsOutput command contents text.items
Makes files command (Err halt) = IfAnswers halt (λ answer. answer_of_command files command ≡ answer)

-- Of what ends a command early, `ReadFault` tells of a failed call.
abbrev pub tells_read_fault : {A : Type 0} → Result A Halt → Bool
tells_read_fault (Err (ReadFault j)) = true
tells_read_fault answer = false

-- A missing file, a bad place and a file that could not be read are of the k-th one; a failed check is of all.
abbrev pub IsOfFile : {A : Type 0} → ℕ → Result A Halt → Type 0
IsOfFile k (Err (NoSuchFile j)) = j ≡ k
IsOfFile k (Err (Refused place)) = place.file ≡ k
IsOfFile k (Err (ReadFault j)) = j ≡ k
IsOfFile k (Err (CheckFailed line)) = ⊥
IsOfFile k answer = ⊤

-- Where the k-th file could not be read, the inputs' count of faults rose. It is as it was under each other answer.
abbrev pub HasFileCause : {A : Type 0} → ℕ → ℕ → ℕ → Result A Halt → Type 0
HasFileCause k before after answer = HasCauseWhere tells_read_fault before after answer × IsOfFile k answer

-- What taking the k-th file, of this name, comes to: it is opened, whether it is there or not; what came of it is said
-- of the store's file; and the count of faults rose only where it could not be read.
pub record TakesFile {A : Type 0} (Says : Option (List ℕ) → Result A Halt → Type 0) (k : ℕ) (name : List ℕ)
    (store : Option Store) (result : Result A Halt) (opens opens_after faults faults_after : ℕ) : Type 0 where
  pub file : IfSome store (λ files. Says (files name) result)
  pub opened : opens_after ≡ raised opens
  pub cause : HasFileCause k faults faults_after result

-- What holds of the file that could not be read, where one could not.
abbrev pub IfReadFault : {A : Type 0} → Result A Halt → (ℕ → Type 0) → Type 0
IfReadFault (Err (ReadFault j)) P = P j
IfReadFault answer P = ⊤

-- What carrying out a command comes to before the first write, by the store and by the counts of opens and of faults.
pub record Carries (command : Command) (store : Option Store) (result : Result (Vec ℕ) Halt)
    (opens opens_after faults faults_after : ℕ) : Type 0 where
  pub makes : IfSome store (λ files. Makes files command result)
  pub good_before : IfSome store (λ files. IfReadFault result (AreGoodBefore files command))
  pub opened : HasOpened command result opens opens_after
  pub cause : HasCauseWhere tells_read_fault faults faults_after result

-- The same of what some words ask for: nothing, or a command, and this is what carrying it out came to.
abbrev pub CarriesAsked : Option Command → Option Store → Option (Result (Vec ℕ) Halt) → ℕ → ℕ → ℕ → ℕ → Type 0
CarriesAsked asked store None opens opens_after faults faults_after = asked ≡ None
CarriesAsked asked store (Some result) opens opens_after faults faults_after =
    (command : Command) × (asked ≡ Some command) × Carries command store result opens opens_after faults faults_after
