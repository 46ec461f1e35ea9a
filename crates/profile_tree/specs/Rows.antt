-- The lines of rows.
use Rattle.std.specs.Prelude.{◌<◌, ℕ, ◌==◌, List, filter, map, length, slice_index}
use Rattle.profile_tree.specs.declared.line.Line.{Line}
use Rattle.profile_tree.specs.declared.line.Line.TheVariants.{Function, Body, Call}
use Rattle.profile_tree.specs.declared.line.Target.{Target}
use Rattle.profile_tree.specs.declared.lines.Parts.{Parts}
use Rattle.profile_lists.specs.declared.lists.Target.{Target as ranked_target}
use Rattle.profile_lists.specs.declared.item.Kind.{Kind}
use Rattle.profile_lists.specs.declared.item.Kind.TheVariants.{Function as of_function, Body as of_body, Call as of_call}
use Rattle.profile_lists.specs.declared.rows.Row.{Row}

-- A target with the number of its name.
abbrev pub target_of : List ℕ → ranked_target → Target
target_of ids target = record { name = record { 0 = slice_index ids target.rank }; times = target.times.0 }

-- The line of a row.
abbrev pub line_by : Parts → Row → Kind → Line
line_by parts row of_function =
    Function (record { 0 = slice_index parts.by_total.now.ids row.step.rank }) row.total
    (slice_index parts.heads.now (slice_index parts.by_total.now.ids row.step.rank))
line_by parts row of_body =
    Body row.depth row.step.offset row.step.disc (slice_index parts.counts.now row.key)
    (map (target_of parts.by_name.now.ids) (filter (λ target. target.key == row.key) parts.targets.now))
line_by parts row of_call =
    Call row.depth row.step.offset row.step.disc (record { 0 = slice_index parts.by_name.now.ids row.step.rank })
    row.total

abbrev pub line_of : Parts → Row → Line
line_of parts row = line_by parts row row.step.kind

-- What a row names has its numbers.
abbrev pub IsKnownBy : Parts → Row → Kind → Type 0
IsKnownBy parts row of_function =
    (row.step.rank < length parts.by_total.now.ids)
    × (slice_index parts.by_total.now.ids row.step.rank < length parts.heads.now)
IsKnownBy parts row of_body = row.key < length parts.counts.now
IsKnownBy parts row of_call = row.step.rank < length parts.by_name.now.ids

abbrev pub IsKnown : Parts → Row → Type 0
IsKnown parts row = IsKnownBy parts row row.step.kind
