-- Lists of pairs of addresses: how often each pair stands, and which are distinct.
use Rattle.std.specs.Prelude.{ℕ, ◌==◌, nat_lt, Bool, ◌&&◌, ◌||◌, List, [], ◌∷◌, count_by, if◌then◌else◌}

-- Both numbers are the same.
abbrev pub same_pair : ℕ × ℕ → ℕ × ℕ → Bool
same_pair p q = p.0 == q.0 && p.1 == q.1

-- How often a pair stands in a list.
abbrev pub times_of : ℕ × ℕ → List (ℕ × ℕ) → ℕ
times_of p pairs = count_by (same_pair p) pairs

-- By the first number, then by the second.
abbrev pub pair_lt : ℕ × ℕ → ℕ × ℕ → Bool
pair_lt p q = nat_lt p.0 q.0 || (p.0 == q.0 && nat_lt p.1 q.1)

-- An ascending list with one more pair, unless it is there already.
abbrev pub with_pair : ℕ × ℕ → List (ℕ × ℕ) → List (ℕ × ℕ)
with_pair p [] = p ∷ []
with_pair p (q ∷ pairs) =
    if pair_lt p q then p ∷ q ∷ pairs
    else (if same_pair p q then q ∷ pairs else q ∷ with_pair p pairs)

-- The distinct pairs of a list, ascending.
abbrev pub distinct_pairs : List (ℕ × ℕ) → List (ℕ × ℕ)
distinct_pairs [] = []
distinct_pairs (p ∷ pairs) = with_pair p (distinct_pairs pairs)
