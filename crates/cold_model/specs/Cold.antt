-- A profile in which keys that never ran have lines.
use Rattle.std.specs.Prelude.{Bool, false, ◌==◌, List, [], ◌∷◌, ◌++◌, map, filter}
use Rattle.std.specs.List.{flat_map, list_any}
use Rattle.profile_model.specs.Orders.{ordered, way_cmp}
use Rattle.profile_model.specs.Profile.{Profile, Line, entered, line_at, recorded, total_of_function}
use Rattle.profile_model.specs.Ways.{Way, beginnings, same_step}

-- The ways that are written, in order, where these keys have lines besides the recorded ones.
abbrev pub written_with : List Way → Profile → List Way
written_with besides p =
    ordered (way_cmp (total_of_function p)) (flat_map beginnings (recorded p ++ (entered p ++ besides)))

-- The lines of a profile in which these keys have lines besides: each number is what it is without them.
unfoldable pub lines_with : List Way → Profile → List Line
lines_with besides p = map (line_at p) (written_with besides p)

-- Two ways lead from one function.
abbrev pub same_function : Way → Way → Bool
same_function (s ∷ way) (t ∷ other) = same_step s t
same_function way other = false

-- The function that a way leads from stands in a profile: one of its keys is recorded, or it was entered.
abbrev pub stands_in : Profile → Way → Bool
stands_in p way = list_any (same_function way) (recorded p ++ entered p)

-- The keys of which a profile tells the count 0.
-- Why: Lines of count 0 in the text stay, those of an older build too; a merge before leaves them out.
abbrev pub told_cold : Profile → List Way
told_cold p = map (λ c. c.0) (filter (λ c. c.1 == 0) p.counts)

-- The lines of a profile in which each of these keys whose function stands there has one. Other keys of which it tells
-- the count 0 have none.
abbrev pub standing_lines_of : List Way → Profile → List Line
standing_lines_of keys p = lines_with (filter (stands_in p) keys) p

-- The lines of a profile in which each key of which it tells the count 0 keeps its line, and each of these keys whose
-- function stands there has one.
abbrev pub cold_lines_of : List Way → Profile → List Line
cold_lines_of keys p = lines_with (told_cold p ++ filter (stands_in p) keys) p
