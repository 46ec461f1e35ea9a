-- What a status says of the words, the files and the output.
use Rattle.std.specs.Prelude.{◌≡◌, ◌⊎◌, ℕ, ⊤, List}
use Rattle.command_model.specs.Answer.{Answer, writes}
use Rattle.command_model.specs.Command.{Command}
use Rattle.command_model.specs.Files.{IsOutput}
use Rattle.program_edge.specs.declared.status.Status.{Status}
use Rattle.program_edge.specs.declared.status.Status.TheVariants.{Done, ReadFault, WriteFault, NoMemory}

-- A fault ended the call, or memory was refused.
abbrev pub IsCutShort : Status → Type 0
IsCutShort (ReadFault file) = ⊤
IsCutShort WriteFault = ⊤
IsCutShort NoMemory = ⊤
IsCutShort _ = ⊥

-- The status comes exactly where the cause holds, as far as the call was not cut short.
-- Why: The second direction follows from the first ones of all statuses, but "exactly where" is what a reader looks
-- for.
abbrev pub ComesExactly : Status → Status → Type 0 → Type 0
ComesExactly result status cause = (result ≡ status → cause) × (cause → (result ≡ status) ⊎ IsCutShort result)

-- The answer is that an output is written, and one was, in this way.
abbrev pub HasWritten : Answer → (List ℕ → Type 0) → Type 0
HasWritten answer Written = (command : Command) × (contents : List (List ℕ)) × (text : List ℕ)
    × (answer ≡ writes command contents) × IsOutput command contents text × Written text

-- No output was begun.
abbrev pub IsWithoutOutput : Status → Type 0
IsWithoutOutput Done = ⊥
IsWithoutOutput WriteFault = ⊥
IsWithoutOutput _ = ⊤

-- No call failed.
abbrev pub IsWithoutFault : Status → Type 0
IsWithoutFault (ReadFault file) = ⊥
IsWithoutFault WriteFault = ⊥
IsWithoutFault _ = ⊤
