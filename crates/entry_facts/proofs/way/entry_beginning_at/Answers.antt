use Rattle.std.proofs.Common.{◌≤◌, arith, sym, ◌∙◌, None, Some}
use Rattle.std.specs.Prelude.{◌^◌}
use Rattle.entry_facts.proofs.WayLemmas.{entry_found, entry_past}
use Rattle.entry_facts.proofs.way.entry_beginning_at.Goals as goal

pub returns-then-at-from : goal.returns-then-at-from
returns-then-at-from c =
    let past : 2 ^ 64 ≤ c.args.at = omega arith in
    sym (entry_past c.args.units.now.entries c.args.at c.units.ensures.kept.order past)

pub returns-in-Some : goal.returns-in-Some
returns-in-Some c = c.entry.ensures ∙ entry_found c.args.units.now.entries c.args.at (Some c.in-Some.place) c.units.ensures.kept.order c.in-Some.ensures

pub returns-in-None : goal.returns-in-None
returns-in-None c = entry_found c.args.units.now.entries c.args.at None c.units.ensures.kept.order c.in-None.ensures
