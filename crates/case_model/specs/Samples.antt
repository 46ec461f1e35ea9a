-- A generated branch text: the samples of each function, as `perf script -F ip,brstack` prints them.
use Rattle.std.specs.Prelude.{ℕ, ◌+◌, List, [], ◌∷◌, ◌++◌, drop, codes, replicate}
use Rattle.std.specs.List.{flat_map, concat}
use Rattle.text_model.specs.Numbers.{hex_text}
use Rattle.case_model.specs.Bytes.{for_each_function}
use Rattle.case_model.specs.Functions.{address, weight, caller}

-- A taken branch, predicted, behind a space.
unfoldable pub branch : ℕ × ℕ → List ℕ
branch ends = codes " " ++ hex_text ends.0 ++ codes "/" ++ hex_text ends.1 ++ codes "/P/-/-/1"

-- A sample: the address at which it was taken, without 0x, and the branches before it, the newest first.
abbrev pub sample : ℕ → List (ℕ × ℕ) → List ℕ
sample ip branches = drop 2 (hex_text ip) ++ flat_map branch branches ++ codes "\n"

-- A sample of the function at `here`, which has returned to the one at `there`, with what stands before that return.
abbrev pub return_sample : ℕ → ℕ → List (ℕ × ℕ) → List ℕ
return_sample here there before = sample (there + 0x36) ((here + 0x38, there + 0x36) ∷ before)

-- Past the block from 0x10 on: the call comes in at the start, takes one branch inside, and returns.
unfoldable pub often_sample : ℕ → ℕ → List ℕ
often_sample here there = return_sample here there ((here + 0xc, here + 0x20) ∷ (there + 0x34, here) ∷ [])

-- Past that from 0x8 on, where the call itself is not among the branches any more.
unfoldable pub once_sample : ℕ → ℕ → List ℕ
once_sample here there = return_sample here there ((here + 0x4, here + 0x10) ∷ [])

-- The samples of function k of n: as often as its weight says the one way through it, and once the other.
unfoldable pub samples_of : ℕ → ℕ → List ℕ
samples_of n k =
    concat (replicate (weight k) (often_sample (address k) (address (caller n k))))
    ++ once_sample (address k) (address (caller n k))

-- The branch text of n functions.
unfoldable pub branch_text : ℕ → List ℕ
branch_text n = for_each_function (samples_of n) n
