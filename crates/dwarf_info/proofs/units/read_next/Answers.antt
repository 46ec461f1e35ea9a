use Rattle.std.proofs.Common.{◌+◌, ℕ, ap}
use Rattle.dwarf_info.specs.declared.units.Extent.{Extent}
use Rattle.dwarf_info.proofs.UnitLemmas.{never_cut, ReadsNext-body}
use Rattle.dwarf_info.proofs.units.read_next.Goals as goal

pub returns-in-Err-clause-read : goal.returns-in-Err-clause-read
returns-in-Err-clause-read c = never_cut _ _ _ c.in_ok-wide.ensures.within c.in-Err.ensures.exact

pub returns-in-Ok-clause-read : goal.returns-in-Ok-clause-read
returns-in-Ok-clause-read c =
    let extent : Extent = record { at = c.at-at.result; end = c.at-start.result + c.in_ok-wide.size; shape = record { wide = c.in_ok-wide.wide } } in
    ReadsNext-body _ _ _ _ _ _ _ extent c.in_ok-wide.size c.read_body.result c.in_ok-wide.ensures.read c.in_ok-wide.ensures.within c.at-at.ensures.place
    (ap (λ (n : ℕ). n + c.in_ok-wide.size) c.at-start.ensures.place) c.in-Ok.ensures.at c.in-Ok.ensures.exact c.in-Ok.ensures.found c.read_body.ensures.read
