-- Hits told by steps: the addresses at which they change.
use Rattle.std.specs.Prelude.{ℕ, ◌^◌, nat_le, nat_lt, List, [], ◌∷◌, filter, if◌then◌else◌}
use Rattle.profile_model.specs.declared.step.Step.{Step}

-- Before all steps no address has hits.
abbrev pub ground : Step
ground = record { at = 0; hits = 0 }

-- The last of some steps, or the one that stands before them.
abbrev pub last_of : Step → List Step → Step
last_of before [] = before
last_of before (step ∷ steps) = last_of step steps

-- The hits from the last step on that is not above an address.
abbrev pub hits_on : List Step → ℕ → ℕ
hits_on steps address = (last_of ground (filter (λ step. nat_le step.at address) steps)).hits

-- The hits of an address. There is none above 2^64 - 1.
-- Why: A model's value may not be a function, so clauses see of `Hits` a list of steps, which this reads.
abbrev pub hits_by : List Step → ℕ → ℕ
hits_by steps address = if nat_lt address (2 ^ 64) then hits_on steps address else 0
