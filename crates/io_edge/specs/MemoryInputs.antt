-- Files in memory, and the calls at which reading them fails.
use Rattle.std.specs.Prelude.{◌≡◌, ℕ, min, Bool, ◌==◌, nat_lt, ◌&&◌, List, [], length, find, drop, slice_get, unwrap_or, Option, option_and_then}
use Rattle.std.specs.Option.{option_map}
use Rattle.std.specs.List.{list_any}
use Rattle.std.specs.Str.{bytes_eq}
use Rattle.io_edge.specs.Inputs.{Store}
use Rattle.io_edge.specs.declared.memory_inputs.StoredFile.{StoredFile}
use Rattle.io_edge.specs.declared.memory_inputs.Fail.{Fail}

-- The file has this name.
abbrev pub is_named : List ℕ → StoredFile → Bool
is_named name file = bytes_eq file.name name

-- The store of these files: of two files of one name the first counts.
abbrev pub stored : List StoredFile → Store
stored files name = option_map (λ file. file.bytes) (find (is_named name) files)

-- This call is to fail: the open of this number, counted from 1, where `call` is 0, else the `call`-th read behind it.
abbrev pub is_planned : List Fail → ℕ → ℕ → Bool
is_planned fails file call =
    nat_lt 0 file && list_any (λ fail. (fail.file == file) && (fail.call == call)) fails

-- What files in memory show: the files, how many bytes a read gives at most, the calls that are to fail, what is
-- left of the open file, and how many opens, reads since the last open and failed calls there were.
pub record InputsInMemory : Type 0 where
  pub files : List StoredFile
  pub piece : ℕ
  pub fails : List Fail
  pub left : List ℕ
  pub opens : ℕ
  pub reads : ℕ
  pub faults : ℕ

-- The call of these numbers fails exactly where it is to fail. It is the last one from then on, and the files, the
-- piece and the calls that are to fail stay.
pub record GoesByPlan (file call : ℕ) (old new : InputsInMemory) (failed : Bool) : Type 0 where
  pub fails : failed ≡ is_planned old.fails file call
  pub last : new.reads ≡ call
  pub files_stay : new.files ≡ old.files
  pub piece_stays : new.piece ≡ old.piece
  pub plan_stays : new.fails ≡ old.fails

-- How many bytes a read gives into a buffer of a size: all that are left, or as many as a piece and the buffer allow.
abbrev pub given_of : InputsInMemory → ℕ → ℕ
given_of inputs size = min (min (length inputs.left) inputs.piece) size

-- The bytes behind this place of the file at this index.
abbrev pub rest_of : List StoredFile → Option ℕ → ℕ → List ℕ
rest_of files index at =
    drop at (unwrap_or (option_map (λ file. file.bytes) (option_and_then (slice_get files) index)) [])
