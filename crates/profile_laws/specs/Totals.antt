-- Totals as sums of what stands below.
use Rattle.std.specs.Prelude.{◌≡◌, ℕ, suc, ◌==◌, Bool, ◌&&◌, List, [], ◌∷◌, filter, length, sum_by}
use Rattle.std.specs.List.{AllByRecursion}
use Rattle.profile_model.specs.Profile.{Profile, capped, count_of, total_of, written}
use Rattle.profile_model.specs.Ways.{Way, Kind, function, body, call, leads_to, last_step}

-- Behind the function, a key's way goes through calls, and ends with a body line.
abbrev pub EndsInBody : Way → Type 0
EndsInBody [] = ⊥
EndsInBody (s ∷ []) = s.kind ≡ body
EndsInBody (s ∷ t ∷ way) = (s.kind ≡ call) × EndsInBody (t ∷ way)

-- The way of a key: a function, and what goes on behind it.
abbrev pub IsKeyWay : Way → Type 0
IsKeyWay [] = ⊥
IsKeyWay (s ∷ way) = (s.kind ≡ function) × EndsInBody way

-- Each way with a count is that of a key.
abbrev pub HasKeyWays : Profile → Type 0
HasKeyWays p = AllByRecursion (λ c. IsKeyWay c.0) p.counts

-- Whether a way is one step longer than another and goes through it.
abbrev pub is_next : Way → Way → Bool
is_next way longer = leads_to way longer && (length longer == suc (length way))

-- The lines right below a way: its body lines and its inlined calls.
abbrev pub right_below : Profile → Way → List Way
right_below p way = filter (is_next way) (written p)

-- The number that such a line adds: the count of a body line, or the total of a call.
abbrev pub number_by : Profile → Way → Kind → ℕ
number_by p way function = total_of p way
number_by p way body = count_of p way
number_by p way call = total_of p way

abbrev pub number_of : Profile → Way → ℕ
number_of p [] = 0
number_of p (s ∷ way) = number_by p (s ∷ way) (last_step s way).kind

-- The kind of a way's last step is not that of a body line.
abbrev pub IsAbove : Way → Type 0
IsAbove [] = ⊥
IsAbove (s ∷ way) = (last_step s way).kind ≡ body → ⊥

-- The total of a function or a call is the sum of what stands right below it.
abbrev pub TotalsAddUp : Type 0
TotalsAddUp =
    (p : Profile) (way : Way) → HasKeyWays p → IsAbove way
    → total_of p way ≡ capped (sum_by (number_of p) (right_below p way))
