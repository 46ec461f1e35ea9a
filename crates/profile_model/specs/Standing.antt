-- Where a line of a profile text stands among those before it. A function or a call is open until the next line that is
-- no deeper than itself.
use Rattle.std.specs.Prelude.{ℕ, ◌+◌, ◌==◌, nat_lt, Bool, false, ◌||◌, List, [], ◌∷◌, ◌++◌, map, find, Option, None, Some, if◌then◌else◌}
use Rattle.std.specs.List.{list_any}
use Rattle.profile_model.specs.Profile.{Line, function_line, body_line, call_line}
use Rattle.profile_model.specs.Ways.{Step, Way, to_function, to_body, to_call, same_name, same_way}

-- The depth of a line.
abbrev pub depth_of : Line → ℕ
depth_of (function_line name total head) = 0
depth_of (body_line depth offset disc count targets) = depth
depth_of (call_line depth offset disc name total) = depth

-- The step that a line stands for.
abbrev pub step_of : Line → Step
step_of (function_line name total head) = to_function name
step_of (body_line depth offset disc count targets) = to_body offset disc
step_of (call_line depth offset disc name total) = to_call offset disc name

-- Whether lines of this depth can stand right below a line: it is a function or a call, and one step less deep.
abbrev pub encloses : ℕ → Line → Bool
encloses depth (function_line name total head) = depth == 1
encloses depth (body_line above offset disc count targets) = false
encloses depth (call_line above offset disc name total) = depth == above + 1

abbrev pub encloses_if_any : ℕ → Option Line → Bool
encloses_if_any depth None = false
encloses_if_any depth (Some line) = encloses depth line

-- Of the lines before, the last one first: the nearest that is less deep.
abbrev pub line_above : List Line → ℕ → Option Line
line_above before depth = find (λ line. nat_lt (depth_of line) depth) before

-- Whether a line of this depth can stand behind these: it is a function, or a function or a call is open above it.
unfoldable pub can_stand : List Line → ℕ → Bool
can_stand before depth = depth == 0 || encloses_if_any depth (line_above before depth)

-- The steps that lead to a line of this depth: those to the nearest line before that is less deep, and that line's.
unfoldable pub way_above : List Line → ℕ → Way
way_above [] depth = []
way_above (line ∷ before) depth =
    if nat_lt (depth_of line) depth then way_above before (depth_of line) ++ step_of line ∷ []
    else way_above before depth

-- The way of a line.
abbrev pub way_of : List Line → Line → Way
way_of before line = way_above before (depth_of line) ++ step_of line ∷ []

-- The ways of lines, the last one first.
unfoldable pub ways_of : List Line → List Way
ways_of [] = []
ways_of (line ∷ before) = way_of before line ∷ ways_of before

-- The targets of a line.
abbrev pub targets_on : Line → List (List ℕ × ℕ)
targets_on (function_line name total head) = []
targets_on (body_line depth offset disc count targets) = targets
targets_on (call_line depth offset disc name total) = []

-- Some name stands among those before it, where these stand before all, the last one first.
unfoldable pub again_among : List (List ℕ) → List (List ℕ) → Bool
again_among before [] = false
again_among before (name ∷ names) = list_any (same_name name) before || again_among (name ∷ before) names

-- Some name stands twice.
abbrev pub has_twice : List (List ℕ) → Bool
has_twice names = again_among [] names

-- A line tells of what was told before, where its way is that of a line before, or a target stands twice on it.
-- Why: Of what stands twice llvm-profdata adds up some and silently takes the last of others. A text that was joined by
-- `cat` should be merged.
unfoldable pub tells_again : List Line → Line → Bool
tells_again before line =
    list_any (same_way (way_of before line)) (ways_of before) || has_twice (map (λ target. target.0) (targets_on line))
