-- The words of a command.
use Rattle.std.specs.Prelude.{ℕ, ◌&&◌, nat_le, List, [], ◌∷◌, drop, length, codes, Option, None, Some, option_and_then, if◌then◌else◌}
use Rattle.std.specs.Option.{option_map}
use Rattle.std.specs.Str.{bytes_eq}
use Rattle.text_model.specs.Numbers.{decimal_of, has_prefix, hex_of}
use Rattle.command_model.specs.Options.{Options, base_has, build_has, operands_of, options_in, options_of, profile_has}

-- A file of a generated case: the binary, the branch text or the block text.
pub data CaseFile : Type 0 where
  bin_file : CaseFile
  perf_file : CaseFile
  cfg_file : CaseFile

-- What a user can ask for. Files are told by their names.
pub data Command : Type 0 where
  -- The branches of a branch text, counted.
  counts : List ℕ → Command
  -- The place of an address of a binary.
  where_ : Options → List ℕ → ℕ → Command
  -- The profile of a binary and a branch text, with the report on it.
  profile : Options → List ℕ → List ℕ → Command
  -- The same, with a repair of each function of a block text between them.
  build : Options → List ℕ → List ℕ → List ℕ → Command
  -- Whether the repairs of a repair text keep what they promise of the functions of a block text.
  check : List ℕ → List ℕ → Command
  -- A file of the generated case of so many functions.
  make : CaseFile → ℕ → Command
  -- The summary of what is built of the three files of such a case.
  make_sum : ℕ → Command
  -- The sum of profiles, each with a weight and its file.
  merge : List (ℕ × List ℕ) → Command
  -- How hot the lines of a profile are.
  summary : List ℕ → Command
  -- The profile in what was built of a binary and a block text, with the repaired counts of blocks on its lines.
  lift : Options → List ℕ → List ℕ → List ℕ → Command
  -- A profile with a line for each place of a binary, in the functions that it has. No words of `pgo` spell this: it is
  -- what `pgo-cold` does.
  cold : Options → List ℕ → List ℕ → Command
  -- The same of the profile of a binary and a branch text, with the report on it, likewise of `pgo-cold`.
  cold_profile : Options → List ℕ → List ℕ → Command

-- The digits of an address, which stand behind `0x` or alone.
abbrev pub digits_of : List ℕ → List ℕ
digits_of word = if has_prefix word then drop 2 word else word

-- An address has at most sixteen digits.
abbrev pub max_digits : ℕ
max_digits = 16

-- An address is one to sixteen hexadecimal digits.
unfoldable pub address_of : List ℕ → Option ℕ
address_of word = if nat_le (length (digits_of word)) max_digits then hex_of (digits_of word) else None

-- `counts PERF`
abbrev pub counts_of : List (List ℕ) → List (List ℕ) → Option Command
counts_of [] (perf ∷ []) = Some (counts perf)
counts_of _ _ = None

-- `where [--base] BIN HEX`
abbrev pub where_of : List (List ℕ) → List (List ℕ) → Option Command
where_of words (bin ∷ hex ∷ []) =
    option_and_then (λ options. option_map (where_ options bin) (address_of hex))
    (options_of base_has words)
where_of words _ = None

-- `profile [--map=NAME] [--base] BIN PERF`
abbrev pub profile_of : List (List ℕ) → List (List ℕ) → Option Command
profile_of words (bin ∷ perf ∷ []) =
    option_map (λ options. profile options bin perf)
    (options_of profile_has words)
profile_of words _ = None

-- `build [--map=NAME] [--base] [--edges] [--scaled] BIN PERF CFG`
abbrev pub build_of : List (List ℕ) → List (List ℕ) → Option Command
build_of words (bin ∷ perf ∷ cfg ∷ []) =
    option_map (λ options. build options bin perf cfg)
    (options_of build_has words)
build_of words _ = None

-- `check CFG OUT`
abbrev pub check_of : List (List ℕ) → List (List ℕ) → Option Command
check_of [] (cfg ∷ out ∷ []) = Some (check cfg out)
check_of _ _ = None

-- A generated case has at most 4,096 functions.
abbrev pub max_functions : ℕ
max_functions = 4096

-- The number of functions of a case: decimal digits.
unfoldable pub functions_of : List ℕ → Option ℕ
functions_of word = option_and_then (λ n. if nat_le n max_functions then Some n else None) (decimal_of word)

-- What is made of a case of so many functions.
abbrev pub made_of : List ℕ → ℕ → Option Command
made_of what n =
    if bytes_eq what (codes "bin") then Some (make bin_file n)
    else (if bytes_eq what (codes "perf") then Some (make perf_file n)
    else (if bytes_eq what (codes "cfg") then Some (make cfg_file n)
    else (if bytes_eq what (codes "sum") then Some (make_sum n) else None)))

-- `make N bin|perf|cfg|sum`
abbrev pub make_of : List (List ℕ) → List (List ℕ) → Option Command
make_of [] (number ∷ what ∷ []) = option_and_then (made_of what) (functions_of number)
make_of _ _ = None

-- A weight is at most 65,535.
abbrev pub max_weight : ℕ
max_weight = 65535

-- A weight: decimal digits of a number that is not 0.
-- Why: A weight of 0 is `Usage`: a file that counts for nothing is left out. An empty text adds nothing, and is no
-- mistake: a machine that slept is no fault of the fleet's.
unfoldable pub weight_of : List ℕ → Option ℕ
weight_of word =
    option_and_then (λ n. if nat_le 1 n && nat_le n max_weight then Some n else None) (decimal_of word)

-- `W FILE [W FILE]..`: files, each behind its weight.
abbrev pub parts_of : List (List ℕ) → Option (List (ℕ × List ℕ))
parts_of [] = Some []
parts_of (weight ∷ []) = None
parts_of (weight ∷ file ∷ words) =
    option_and_then (λ w. option_map (λ parts. (w, file) ∷ parts) (parts_of words)) (weight_of weight)

-- At most eight files are merged.
abbrev pub max_parts : ℕ
max_parts = 8

-- The merge of some files, if there is one and there are not too many.
abbrev pub merged_of : List (ℕ × List ℕ) → Option Command
merged_of parts = if nat_le 1 (length parts) && nat_le (length parts) max_parts then Some (merge parts) else None

-- `merge W FILE [W FILE]..`
abbrev pub merge_of : List (List ℕ) → List (List ℕ) → Option Command
merge_of [] words = option_and_then merged_of (parts_of words)
merge_of _ _ = None

-- `summary FILE`
abbrev pub summary_of : List (List ℕ) → List (List ℕ) → Option Command
summary_of [] (file ∷ []) = Some (summary file)
summary_of _ _ = None

-- `lift [--base] BIN CFG OUT`
abbrev pub lift_of : List (List ℕ) → List (List ℕ) → Option Command
lift_of words (bin ∷ cfg ∷ out ∷ []) =
    option_map (λ options. lift options bin cfg out)
    (options_of base_has words)
lift_of words _ = None

-- The command of a name, by the words of its options and those behind them.
abbrev pub command_by : List ℕ → List (List ℕ) → List (List ℕ) → Option Command
command_by name options operands =
    if bytes_eq name (codes "counts") then counts_of options operands
    else (if bytes_eq name (codes "where") then where_of options operands
    else (if bytes_eq name (codes "profile") then profile_of options operands
    else (if bytes_eq name (codes "build") then build_of options operands
    else (if bytes_eq name (codes "check") then check_of options operands
    else (if bytes_eq name (codes "make") then make_of options operands
    else (if bytes_eq name (codes "merge") then merge_of options operands
    else (if bytes_eq name (codes "summary") then summary_of options operands
    else (if bytes_eq name (codes "lift") then lift_of options operands else None))))))))

-- The command that the words spell, if they spell one.
unfoldable pub command_of : List (List ℕ) → Option Command
command_of [] = None
command_of (name ∷ words) = command_by name (options_in words) (operands_of words)
