use Rattle.std.proofs.Common.{◌≡◌, List, length, take, drop, ap, ◌∙◌, arith}
use Rattle.std.specs.Prelude.{min}
use Rattle.unit_model.specs.Units as model
use Rattle.dwarf_info.specs.declared.rows.EntryRow.{EntryRow}
use Rattle.dwarf_info.specs.Rows.{entries_of}
use Rattle.dwarf_info.proofs.UnitEntryLemmas.{entries_of-unit}
use Rattle.dwarf_info.proofs.rows.Units.entries_of.Goals as goal

pub returns : goal.returns
returns c =
    let found = c.self.inside.so_far.entries.found in
    let rows = c.deref.result.now in
    let unit = c.unit.inside in
    let long : c.len.result ≡ length rows = omega (arith, c.len.ensures, c.self.inside.so_far.entries.rows.ok.0, ap (λ (rs : List EntryRow). length rs) c.deref.ensures.value) in
    let from = c.min-first.ensures ∙ ap (λ n. min n unit.first) long in
    c.new.ensures ∙ entries_of-unit found rows unit.first unit.count _ _ from c.min-count.ensures
    ∙ ap (λ (rs : List EntryRow). take unit.count (drop unit.first (entries_of found rs))) c.deref.ensures.value
    ∙ ap (λ (u : model.Units). take unit.count (drop unit.first u.entries)) c.self.view_is
    ∙ ap (λ (u : model.Unit). take u.count (drop u.first c.args.self.now.entries)) c.unit.view_is
