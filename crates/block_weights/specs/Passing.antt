-- Where ranges ran on from an address to the next.
use Rattle.std.specs.Prelude.{◌+◌, nat_lt, List, [], ◌∷◌, if◌then◌else◌}
use Rattle.profile_model.specs.declared.ran_range.RanRange.{RanRange}

-- What of a range lies behind its first address.
abbrev pub behind_first : RanRange → List RanRange
behind_first range =
    if nat_lt range.lo range.hi then record { lo = range.lo + 1; hi = range.hi; times = range.times } ∷ [] else []
