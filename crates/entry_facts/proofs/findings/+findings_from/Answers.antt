use Rattle.std.proofs.Common.{◌≡◌, ◌<◌, ℕ, Some, Ok, arith, sym, ap, subst, ◌∙◌}
use Rattle.unit_model.specs.Entries.{Entry}
use Rattle.tree_model.specs.Way.{entry_beginning_at}
use Rattle.entry_facts.specs.Meaning.{info_of}
use Rattle.entry_facts.proofs.ListedLemmas.{next_begins}
use Rattle.entry_facts.proofs.StepLemmas.{way_from-end, way_from-more}
use Rattle.entry_facts.proofs.findings.+findings_from.Goals as goal

pub returns-in-Ok-None-clause-found : goal.returns-in-Ok-None-clause-found
returns-in-Ok-None-clause-found t c = (
  _,
  way_from-end (info_of c.args.info.now) c.args.began c.args.steps c.args.entry.now (sym c.in-Ok-None.ensures ∙ ap Ok c.in-Ok-None.field-0-is),
  c.found_in.ensures.found,
)

pub findings_from-requires : goal.findings_from-requires
findings_from-requires t c = (
  omega arith,
  subst (λ (n : ℕ). entry_beginning_at c.args.info.now.units.now.entries n ≡ Some c.in-Ok-Some.next) (sym (ap (λ (e : Entry). e.at) c.next.view_is))
      (next_begins (info_of c.args.info.now) c.args.entry.now c.in-Ok-Some.next (sym c.in-Ok-Some.ensures ∙ ap Ok c.in-Ok-Some.field-0-is)),
)

pub returns-clause-found : goal.returns-clause-found
returns-clause-found t c =
    let some : 0 < c.args.steps = omega arith in (
      _,
      way_from-more (info_of c.args.info.now) c.args.began c.args.steps c.args.entry.now c.in-Ok-Some.next c.in_ok-rest.ensures.found.0 some (sym c.in-Ok-Some.ensures ∙ ap Ok c.in-Ok-Some.field-0-is) c.in_ok-rest.ensures.found.1,
      c.before-2.ensures.found c.args.entry.now c.in_ok-rest.ensures.found.0 c.found_in-2.ensures.found c.in_ok-rest.ensures.found.2,
    )

pub returns-clause-listed : goal.returns-clause-listed
returns-clause-listed t c =
    c.before-2.ensures.listed c.args.info.now.units.now (c.found_in-2.ensures.listed c.args.info.now.units.now c.requires) c.in_ok-rest.ensures.listed
