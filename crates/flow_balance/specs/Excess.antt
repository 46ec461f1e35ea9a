-- The excess of sides as a list.
use Rattle.std.specs.Prelude.{◌≡◌, ℕ, ◌+◌, List, slice_set, ℤ, pos, negsuc, ◌+ℤ◌, ◌-ℤ◌}
use Rattle.std.specs.List.{sum_by}
use Rattle.flow_model.specs.declared.arc.Arc.{Arc}
use Rattle.residual_model.specs.Residual as residual
use Rattle.path_search.specs.Ground.{price_at}

-- The list tells the excess of each node.
abbrev pub AreExcess : List Arc → List ℕ → List ℤ → Type 0
AreExcess arcs counts excess = (node : ℕ) → price_at excess node ≡ residual.excess arcs counts node

-- What a side has too much.
abbrev pub surplus_of : ℤ → ℕ
surplus_of (pos n) = n
surplus_of (negsuc n) = 0

-- What a side lacks.
abbrev pub lack_of : ℤ → ℕ
lack_of (pos n) = 0
lack_of (negsuc n) = n + 1

-- What all sides have too much.
abbrev pub surplus : List ℤ → ℕ
surplus excess = sum_by surplus_of excess

-- What all sides lack.
abbrev pub lack : List ℤ → ℕ
lack excess = sum_by lack_of excess

-- The excess of a side changed by so much.
abbrev pub raised : List ℤ → ℕ → ℤ → List ℤ
raised excess side by = slice_set excess side (price_at excess side +ℤ by)

-- The excess when an amount more goes from one side to another.
abbrev pub transferred : List ℤ → ℕ → ℕ → ℕ → List ℤ
transferred excess from to amount =
    slice_set (raised excess to (pos amount)) from (price_at (raised excess to (pos amount)) from -ℤ pos amount)
