use Rattle.std.proofs.Common.{◌≡◌, ℕ, Some, Ok, Result, refl, sym, ap, subst}
use Rattle.refusal.specs.declared.place.Place.{Place}
use Rattle.dwarf_strings.specs.Meaning.{sections_of}
use Rattle.unit_model.specs.Entries.{Entry}
use Rattle.tree_model.specs.Way.{entry_beginning_at}
use Rattle.tree_model.specs.Origin.{Origin}
use Rattle.entry_facts.specs.Meaning.{GivesOrigin, info_of}
use Rattle.entry_facts.proofs.StepLemmas.{origin-is, origin-others}
use Rattle.entry_facts.proofs.origins.Origins.origin_of.Goals as goal

pub returns-in_default-clause-told : goal.returns-in_default-clause-told
returns-in_default-clause-told c =
    let is = origin-is (sections_of c.args.info.now.texts.now) (info_of c.args.info.now) c.args.entry.now c.entry.inside.at (ap (λ (e : Entry). e.at) c.entry.view_is) in
    subst (λ (told : Result Origin Place). GivesOrigin c.said.new.names c.said.result told) (sym is) c.said.ensures.told

pub returns-in-None-clause-told : goal.returns-in-None-clause-told
returns-in-None-clause-told c =
    let is = origin-is (sections_of c.args.info.now.texts.now) (info_of c.args.info.now) c.args.entry.now c.entry.inside.at (ap (λ (e : Entry). e.at) c.entry.view_is) in
    subst (λ (told : Result Origin Place). GivesOrigin c.said-in-None.new.names c.said-in-None.result told) (sym is) c.said-in-None.ensures.told

pub returns-in-Some-known_at-clause-told : goal.returns-in-Some-known_at-clause-told
returns-in-Some-known_at-clause-told c =
    let known = c.requires.known.origins c.in-Some.at c.in-Some-known_at.origin (sym c.in-Some-known_at.ensures) in
    let is = origin-others (sections_of c.args.info.now.texts.now) (info_of c.args.info.now) c.args.entry.now known.entry c.args.entry.now.at c.in-Some.at refl c.in-Some.ensures known.begins in
    subst (λ (told : Result Origin Place). GivesOrigin c.args.names.now (Ok c.in-Some-known_at.origin) told) (sym is) (known.told c.args.entry.now.at)

pub returns-in-Some-entry_beginning_at-clause-told : goal.returns-in-Some-entry_beginning_at-clause-told
returns-in-Some-entry_beginning_at-clause-told c =
    let next = c.in-Some-entry_beginning_at.next in
    let begins = subst (λ (n : ℕ). entry_beginning_at c.args.info.now.units.now.entries n ≡ Some next) c.from.ensures (sym c.in-Some-entry_beginning_at.ensures) in
    let is = origin-others (sections_of c.args.info.now.texts.now) (info_of c.args.info.now) c.args.entry.now next c.entry.inside.at c.in-Some.at (ap (λ (e : Entry). e.at) c.entry.view_is) c.in-Some.ensures begins in
    subst (λ (told : Result Origin Place). GivesOrigin c.worked_out.new.names c.worked_out.result told) (sym is) c.worked_out.ensures.told
