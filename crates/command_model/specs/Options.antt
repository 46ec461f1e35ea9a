-- The options of a command.
use Rattle.std.specs.Prelude.{ℕ, ◌+◌, Bool, true, false, ◌&&◌, ◌||◌, nat_lt, nat_eq, List, [], ◌∷◌, take, drop, length, count_by, codes, Option, None, Some, is_some, slice_get, if◌then◌else◌}
use Rattle.std.specs.List.{filter_map, list_all, starts_with}
use Rattle.std.specs.Str.{bytes_eq}
pub use Rattle.output_model.specs.Options.{Options}

-- A word that begins with `--`, in front of the other words of a command, is an option.
-- Why: It is one for every command, so `counts --x` is `Usage` and `merge 1 --x` reads a file.
abbrev pub is_option : List ℕ → Bool
is_option word = starts_with nat_eq word (codes "--")

-- How many words in front begin with `--`.
abbrev pub option_count : List (List ℕ) → ℕ
option_count [] = 0
option_count (word ∷ words) = if is_option word then 1 + option_count words else 0

-- The options: the words in front that begin with `--`.
abbrev pub options_in : List (List ℕ) → List (List ℕ)
options_in words = take (option_count words) words

-- What stands behind the options.
abbrev pub operands_of : List (List ℕ) → List (List ℕ)
operands_of words = drop (option_count words) words

-- Which options a command has.
pub record Has : Type 0 where
  pub map : Bool
  pub base : Bool
  pub edges : Bool
  pub scaled : Bool

-- The options of `where`, of `lift` and of `pgo-cold`.
abbrev pub base_has : Has
base_has = record { map = false; base = true; edges = false; scaled = false }

-- The options of `profile`.
abbrev pub profile_has : Has
profile_has = record { map = true; base = true; edges = false; scaled = false }

-- The options of `build`.
abbrev pub build_has : Has
build_has = record { map = true; base = true; edges = true; scaled = true }

-- The name in an option `--map=NAME`, which is not empty.
unfoldable pub map_name : List ℕ → Option (List ℕ)
map_name word = if starts_with nat_eq word (codes "--map=") && nat_lt 6 (length word) then Some (drop 6 word) else None

-- Whether a word is the option `--map=NAME`.
abbrev pub is_map : List ℕ → Bool
is_map word = is_some (map_name word)

-- Whether a word is the option `--base`.
abbrev pub is_base : List ℕ → Bool
is_base word = bytes_eq word (codes "--base")

-- Whether a word is the option `--edges`.
abbrev pub is_edges : List ℕ → Bool
is_edges word = bytes_eq word (codes "--edges")

-- Whether a word is the option `--scaled`.
abbrev pub is_scaled : List ℕ → Bool
is_scaled word = bytes_eq word (codes "--scaled")

-- The word is an option that the command has.
abbrev pub is_of : Has → List ℕ → Bool
is_of has word =
    (has.map && is_map word)
    || ((has.base && is_base word) || ((has.edges && is_edges word) || (has.scaled && is_scaled word)))

-- Each word is an option that the command has, and none stands twice.
abbrev pub are_of : Has → List (List ℕ) → Bool
are_of has words =
    list_all (is_of has) words
    && (nat_lt (count_by is_map words) 2
    && (nat_lt (count_by is_base words) 2
    && (nat_lt (count_by is_edges words) 2 && nat_lt (count_by is_scaled words) 2)))

-- The name in the first of these words that has one.
abbrev pub first_map : List (List ℕ) → Option (List ℕ)
first_map words = slice_get (filter_map map_name words) 0

-- What these words say, in any order.
unfoldable pub options_of : Has → List (List ℕ) → Option Options
options_of has words =
    if are_of has words
    then Some (record {
      map = first_map words;
      base = nat_lt 0 (count_by is_base words);
      repairs = record {
        edges = nat_lt 0 (count_by is_edges words);
        scaled = nat_lt 0 (count_by is_scaled words);
      };
    })
    else None
