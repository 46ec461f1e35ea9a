use Rattle.std.proofs.Common.{◌≢◌, ap}
use Rattle.unit_model.specs.Constants.{DW_TAG_inlined_subroutine, DW_TAG_subprogram}
use Rattle.unit_model.specs.Entries.{Entry}
use Rattle.entry_facts.specs.Told.{in_unit}
use Rattle.inline_tree.specs.Told.{source_of}
use Rattle.inline_tree.proofs.StepLemmas.{entry-passed}
use Rattle.inline_tree.proofs.entries.next_entry.Goals as goal

pub returns-clause-read : goal.returns-clause-read
returns-clause-read c = λ told is.
    let no_function : c.entry.inside.tag ≢ DW_TAG_subprogram = c.if-entry-eq-DW_TAG_SUBPROGRAM.false in
    let no_call : c.entry.inside.tag ≢ DW_TAG_inlined_subroutine = c.if-entry-eq-DW_TAG_INLINED_SUBROUTINE.false in
    let tag = ap (λ (e : Entry). e.tag) c.entry.view_is in
    entry-passed (source_of c.args.source.now) (in_unit c.args.of.now) c.args.entry.now _ told c.args.all.now.members _ _ _ _ is no_function no_call tag
    (ap (λ (e : Entry). e.depth) c.entry.view_is) c.frame_above-above.ensures c.in_ok-pass.ensures
