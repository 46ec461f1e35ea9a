-- What a profile says, of counted places, calls and functions.
use Rattle.std.specs.Prelude.{ℕ, ◌-◌, ◌^◌, nat_lt, min, ◌&&◌, List, [], ◌∷◌, ◌++◌, map, filter, length, sum_by}
use Rattle.std.specs.List.{flat_map}
use Rattle.profile_model.specs.Orders.{ordered, way_cmp, target_cmp}
use Rattle.profile_model.specs.Ways.{Way, Step, Kind, function, body, call, to_function, same_name, same_way, leads_to, beginnings, last_step}

-- What was counted: the way of each key with its count; calls of a function from a key, with how often; entries of a
-- function, with how often. A call or a function may stand several times; so may a way, where profiles are merged.
pub record Profile : Type 0 where
  pub counts : List (Way × ℕ)
  pub calls : List (Way × List ℕ × ℕ)
  pub heads : List (List ℕ × ℕ)

-- The count of a key.
abbrev pub count_of : Profile → Way → ℕ
count_of p way = sum_by (λ c. c.1) (filter (λ c. same_way way c.0) p.counts)

-- How often a function was called from a key.
abbrev pub target_of : Profile → Way → List ℕ → ℕ
target_of p way name = sum_by (λ c. c.2) (filter (λ c. same_way way c.0 && same_name name c.1) p.calls)

-- How often a function was entered.
abbrev pub head_of : Profile → List ℕ → ℕ
head_of p name = sum_by (λ h. h.1) (filter (λ h. same_name name h.0) p.heads)

-- A total stands still at the end of 64 bits.
-- Why: A total refuses nothing, and the totals of a text are not read.
abbrev pub capped : ℕ → ℕ
capped n = min n (2 ^ 64 - 1)

-- The total of a function or a call is the sum of the counts of all keys whose ways lead through it.
-- Why: So functions can be ordered by it, as it is printed, without a tree. That it is the sum of what stands below is
-- a law.
abbrev pub total_of : Profile → Way → ℕ
total_of p way = capped (sum_by (λ c. c.1) (filter (λ c. leads_to way c.0) p.counts))

-- The total of a function, by its name.
abbrev pub total_of_function : Profile → List ℕ → ℕ
total_of_function p name = total_of p (to_function name ∷ [])

-- The targets of a key: the functions that were called from it, with how often.
abbrev pub targets_of : Profile → Way → List (List ℕ × ℕ)
targets_of p way =
    ordered target_cmp
    (map (λ c. (c.1, target_of p way c.1)) (filter (λ c. same_way way c.0 && nat_lt 0 c.2) p.calls))

-- A key is recorded where its count is above 0 or it has a target.
abbrev pub recorded : Profile → List Way
recorded p =
    map (λ c. c.0) (filter (λ c. nat_lt 0 c.1) p.counts) ++ map (λ c. c.0) (filter (λ c. nat_lt 0 c.2) p.calls)

-- The functions that were entered.
abbrev pub entered : Profile → List Way
entered p = map (λ h. to_function h.0 ∷ []) (filter (λ h. nat_lt 0 h.1) p.heads)

-- The ways that are written, in order: those of recorded keys and of functions that were entered, and of all calls and
-- functions that these lead through.
-- Why: Lines of count 0 are left out: a sum of sums cannot tell who looked. `pgo-cold` adds a binary's behind the last
-- merge.
abbrev pub written : Profile → List Way
written p = ordered (way_cmp (total_of_function p)) (flat_map beginnings (recorded p ++ entered p))

-- A line of a profile. A call's and a body line's depth is the number of steps above it.
pub data Line : Type 0 where
  function_line : (name : List ℕ) (total head : ℕ) → Line
  body_line : (depth offset disc count : ℕ) (targets : List (List ℕ × ℕ)) → Line
  call_line : (depth offset disc : ℕ) (name : List ℕ) (total : ℕ) → Line

-- The line of a way that ends with such a step.
abbrev pub line_by : Profile → Way → Step → Kind → Line
line_by p way step function = function_line step.name (total_of p way) (head_of p step.name)
line_by p way step body =
    body_line (length way - 1) step.offset step.disc (count_of p way) (targets_of p way)
line_by p way step call = call_line (length way - 1) step.offset step.disc step.name (total_of p way)

-- The line of a way.
abbrev pub line_at : Profile → Way → Line
line_at p [] = function_line [] 0 0
line_at p (s ∷ way) = line_by p (s ∷ way) (last_step s way) (last_step s way).kind

-- The lines of a profile.
unfoldable pub lines_of : Profile → List Line
lines_of p = map (line_at p) (written p)
