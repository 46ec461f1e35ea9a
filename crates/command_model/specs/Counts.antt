-- What `counts` writes.
use Rattle.std.specs.Prelude.{ℕ, List, ◌++◌, length, codes}
use Rattle.std.specs.List.{flat_map}
use Rattle.sample_model.specs.Pairs.{times_of, distinct_pairs}
use Rattle.text_model.specs.Numbers.{hex_text, decimal_text}

-- The line of one branch: where it came from, where it went to, and how often.
abbrev pub counts_line : ℕ × ℕ → ℕ → List ℕ
counts_line p times = hex_text p.0 ++ (codes " " ++ (hex_text p.1 ++ (codes " " ++ (decimal_text times ++ codes "\n"))))

-- The number of branches, all in all.
abbrev pub total_line : ℕ → List ℕ
total_line n = codes "# branches " ++ (decimal_text n ++ codes "\n")

-- A line for each distinct branch, ascending, and then how many branches there are.
unfoldable pub counts_text : List (ℕ × ℕ) → List ℕ
counts_text branches =
    flat_map (λ p. counts_line p (times_of p branches)) (distinct_pairs branches) ++ total_line (length branches)
