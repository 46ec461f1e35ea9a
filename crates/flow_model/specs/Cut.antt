-- Cuts: sets of nodes into which more has to flow than can flow out.
use Rattle.std.specs.Prelude.{◌≡◌, ℕ, ◌+◌, ◌<◌, Bool, not, ◌&&◌, List, [], ◌∷◌, Option, None, Some, if◌then◌else◌}
use Rattle.flow_model.specs.declared.arc.Arc.{Arc}

-- An arc enters a set where its head is in it and its tail is not.
abbrev pub enters : (ℕ → Bool) → Arc → Bool
enters set arc = set arc.head && not (set arc.tail)

-- An arc leaves a set where its tail is in it and its head is not.
abbrev pub leaves : (ℕ → Bool) → Arc → Bool
leaves set arc = set arc.tail && not (set arc.head)

-- What has to flow in: the sum of the lower bounds of the arcs that enter.
abbrev pub least_in : (ℕ → Bool) → List Arc → ℕ
least_in set [] = 0
least_in set (arc ∷ arcs) = (if enters set arc then arc.lower else 0) + least_in set arcs

-- Two bounds together, where there are both.
abbrev pub both_bounds : Option ℕ → Option ℕ → Option ℕ
both_bounds (Some m) (Some n) = Some (m + n)
both_bounds _ _ = None

-- What can flow out: the sum of the upper bounds of the arcs that leave, where each of them has one.
abbrev pub most_out : (ℕ → Bool) → List Arc → Option ℕ
most_out set [] = Some 0
most_out set (arc ∷ arcs) = both_bounds (if leaves set arc then arc.upper else Some 0) (most_out set arcs)

-- A set is a cut where all arcs that leave it are bounded, and more has to flow in than can flow out.
abbrev pub IsCut : (ℕ → Bool) → List Arc → Type 0
IsCut set arcs = (most : ℕ) × (most_out set arcs ≡ Some most) × (most < least_in set arcs)
