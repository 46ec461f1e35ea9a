-- Summaries at the borders of their cutoffs.
use Rattle.std.proofs.Common.{◌≡◌, [], ◌∷◌, refl}
use Rattle.profile_model.specs.Summary.{least_hot}

-- Nine of ten are nine tenths of all, and no more.
a_cutoff_that_is_met_exactly : least_hot (9 ∷ 1 ∷ []) 900000 ≡ 9
a_cutoff_that_is_met_exactly = refl

-- A millionth more takes in the rest.
just_above_it : least_hot (9 ∷ 1 ∷ []) 900001 ≡ 1
just_above_it = refl
