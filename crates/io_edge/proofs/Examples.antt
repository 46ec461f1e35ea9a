-- The definitions on worked values.
use Rattle.std.proofs.Common.{◌≡◌, ℕ, ◌-◌, ◌^◌, true, false, List, [], ◌∷◌, Some, None, Ok, refl}
use Rattle.std.specs.Prelude.{codes}
use Rattle.io_edge.specs.Faults.{raised}
use Rattle.io_edge.specs.Inputs.{Opens}
use Rattle.io_edge.specs.MemoryInputs.{stored, is_planned, rest_of}
use Rattle.io_edge.specs.MemorySink.{SinkInMemory, is_to_fail, write_fails}
use Rattle.io_edge.specs.declared.memory_inputs.StoredFile.{StoredFile}
use Rattle.io_edge.specs.declared.memory_inputs.Fail.{Fail}

one_more : raised 4 ≡ 5
one_more = refl

stands_still : raised (2 ^ 64 - 1) ≡ 2 ^ 64 - 1
stands_still = refl

files : List StoredFile
files = record { name = codes "b"; bytes = codes "other" } ∷ record { name = codes "a"; bytes = codes "first" } ∷ record { name = codes "a"; bytes = codes "second" } ∷ []

first_of_a_name : stored files (codes "a") ≡ Some (codes "first")
unfolding files
first_of_a_name = refl

no_such_name : stored files (codes "c") ≡ None
unfolding files
no_such_name = refl

opened : Opens {E = ℕ} (Some (stored files)) (codes "a") (Ok true) (Some (codes "first"))
unfolding files
opened = (refl, refl)

missing : Opens {E = ℕ} (Some (stored files)) (codes "c") (Ok false) (Some [])
unfolding files
missing = (refl, refl)

behind_a_place : rest_of files (Some 1) 2 ≡ codes "rst"
unfolding files
behind_a_place = refl

none_open : rest_of files None 0 ≡ []
none_open = refl

plan : List Fail
plan = record { file = 1; call = 0 } ∷ record { file = 2; call = 3 } ∷ record { file = 0; call = 1 } ∷ []

third_read_of_the_second : is_planned plan 2 3 ≡ true
unfolding plan
third_read_of_the_second = refl

no_other_read : is_planned plan 1 3 ≡ false
unfolding plan
no_other_read = refl

no_read_before_an_open : is_planned plan 0 1 ≡ false
unfolding plan
no_read_before_an_open = refl

-- two bytes of two, and the third write is to fail
sink : ℕ → SinkInMemory
sink room = record { written = 7 ∷ 8 ∷ []; room = room; piece = 16; fails = 3 ∷ []; writes = 1; faults = 0; finished = false }

full : write_fails (sink 2) 2 ≡ true
unfolding sink
full = refl

has_room : write_fails (sink 3) 2 ≡ false
unfolding sink
has_room = refl

by_number : write_fails (sink 3) 3 ≡ true
unfolding sink
by_number = refl

finish_succeeds : is_to_fail (3 ∷ []) 0 ≡ false
finish_succeeds = refl
