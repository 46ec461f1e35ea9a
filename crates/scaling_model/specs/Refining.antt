-- Counts of a network in units of one size, as counts in units of half the size.
use Rattle.std.specs.Prelude.{ℕ, ◌+◌, ◌-◌, ◌*◌, nat_lt, ◌&&◌, int_lt, ℤ, pos, ◌-ℤ◌, if◌then◌else◌}
use Rattle.block_model.specs.Judging.{exceeds}
use Rattle.flow_model.specs.declared.arc.Arc.{Arc}

-- By how much the price rises on an arc.
abbrev pub rise_on : (ℕ → ℤ) → Arc → ℤ
rise_on price arc = price arc.head -ℤ price arc.tail

-- A count set right by at most one unit, where the price rises by so much on the arc: it is raised where it is below
-- the lower bound. It is lowered where it is above the upper bound, and also above lower bound and weight where its
-- last unit costs more than the price rises.
abbrev pub set_right : ℤ → Arc → ℕ → ℕ
set_right rise arc n =
    if nat_lt n arc.lower then n + 1
    else (if exceeds n arc.upper then n - 1
    else (if nat_lt arc.lower n && (nat_lt arc.weight n && int_lt rise (pos arc.up)) then n - 1 else n))

-- A count in units of half the size.
abbrev pub refined : ℤ → Arc → ℕ → ℕ
refined rise arc n = set_right rise arc (2 * n)
