-- How hot the hot lines of a profile are (LLVM, ProfileCommon.h, "detailed summary").
use Rattle.std.specs.Prelude.{ℕ, ◌*◌, nat_le, nat_lt, max, Bool, true, false, List, [], ◌∷◌, ◌++◌, map, filter, length, sum, codes}
use Rattle.std.specs.List.{flat_map, fold}
use Rattle.text_model.specs.Numbers.{decimal_text}
use Rattle.profile_model.specs.Profile.{Profile, Line, function_line, body_line, call_line, lines_of}

-- The numbers above 0 of a profile's keys.
abbrev pub counts_above : Profile → List ℕ
counts_above p = filter (nat_lt 0) (map (λ c. c.1) p.counts)

-- The greatest of some numbers, or 0 where there is none.
abbrev pub greatest : List ℕ → ℕ
greatest numbers = fold max 0 numbers

-- The numbers that are at least so large.
abbrev pub at_least : ℕ → List ℕ → List ℕ
at_least least numbers = filter (nat_le least) numbers

-- Whether the numbers from this one on make up so many millionths of all.
abbrev pub covers : List ℕ → ℕ → ℕ → Bool
covers numbers cutoff least = nat_le (cutoff * sum numbers) (1000000 * sum (at_least least numbers))

-- The least hot count of a cutoff: the greatest number from which on they do.
abbrev pub least_hot : List ℕ → ℕ → ℕ
least_hot numbers cutoff = greatest (filter (covers numbers cutoff) numbers)

-- The cutoffs, in millionths.
abbrev pub cutoffs : List ℕ
cutoffs =
    10000 ∷ 100000 ∷ 200000 ∷ 300000 ∷ 400000 ∷ 500000 ∷ 600000 ∷ 700000 ∷ 800000 ∷ 900000 ∷ 950000 ∷ 990000 ∷ 999000
    ∷ 999900 ∷ 999990 ∷ 999999 ∷ []

abbrev pub is_function : Line → Bool
is_function (function_line name total head) = true
is_function (body_line depth offset disc count targets) = false
is_function (call_line depth offset disc name total) = false

-- How many functions are written of a profile.
abbrev pub function_count : Profile → ℕ
function_count p = length (filter is_function (lines_of p))

-- A word and a number on a line.
abbrev pub told_number : List ℕ → ℕ → List ℕ
told_number word n = word ++ codes " " ++ decimal_text n ++ codes "\n"

-- The line of a cutoff.
abbrev pub cutoff_text : List ℕ → ℕ → List ℕ
cutoff_text numbers cutoff =
    codes "cutoff " ++ decimal_text cutoff ++ codes " least " ++ decimal_text (least_hot numbers cutoff)
    ++ codes " lines " ++ decimal_text (length (at_least (least_hot numbers cutoff) numbers)) ++ codes "\n"

-- The summary of numbers of keys, with how many functions there are.
unfoldable pub summary_by : ℕ → List ℕ → List ℕ
summary_by functions numbers =
    told_number (codes "functions") functions ++ told_number (codes "lines") (length numbers)
    ++ told_number (codes "total") (sum numbers) ++ told_number (codes "max") (greatest numbers)
    ++ flat_map (cutoff_text numbers) cutoffs

-- The summary of a profile.
abbrev pub summary_text : Profile → List ℕ
summary_text p = summary_by (function_count p) (counts_above p)
