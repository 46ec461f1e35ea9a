-- The definition on a worked value.
use Rattle.std.proofs.Common.{◌≡◌, ◌∷◌, [], refl, nat_lt}
use Rattle.branch_counts.specs.Laws.{times_where}

from_low : times_where (λ p. nat_lt p.0 5) (record { from = 4; to = 9; times = 2 } ∷ record { from = 6; to = 9; times = 7 } ∷ record { from = 1; to = 1; times = 1 } ∷ []) ≡ 3
from_low = refl
