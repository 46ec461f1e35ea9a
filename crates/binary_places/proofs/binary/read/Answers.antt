use Rattle.std.proofs.Common.{◌∙◌, ap, refl, sym, subst, length}
use Rattle.std.specs.Result.{result_err}
use Rattle.elf_model.specs.Segments.{code_loads}
use Rattle.placed_view.specs.Reader.{refused_at}
use Rattle.context_map.specs.Asked.{AreFunctions}
use Rattle.inline_tree.proofs.LoopLemmas.{made-same}
use Rattle.binary_places.proofs.Items.{in_headers, in_members, in_rows, in_sections, in_units}
use Rattle.binary_places.proofs.ReadLemmas.{found_same, lacks, made_told, members_same, refuses, rows_same, source_same, stops_with, tables_same, told_same, units_same}
use Rattle.binary_places.proofs.binary.read.Goals as goal

pub returns-in_err-elf : goal.returns-in_err-elf
returns-in_err-elf c =
    stops_with _ _ _ _ _ c.from_residual.result (in_headers c.args.file.now c.requires) c.in_err-elf.ensures c.from_residual.ensures.1

pub returns-in_err-sections : goal.returns-in_err-sections
returns-in_err-sections c =
    let same = c.in_ok-elf.ensures.1 in
    refuses _ _ _ c.from_residual-in_err-sections.result
    (in_sections c.args.file.now c.requires _ c.in_ok-elf.ensures.0 (sym (found_same _ _ same) ∙ c.in_err-sections.ensures))
    c.from_residual-in_err-sections.ensures.1

pub returns-in_err-units : goal.returns-in_err-units
returns-in_err-units c =
    let same = c.in_ok-elf.ensures.1 in
    let sections = c.in_ok-sections.ensures in
    stops_with _ _ _ _ _ c.from_residual-in_err-units.result
    (λ place is. in_units c.args.file.now c.requires place c.in_ok-elf.ensures.0 (sym (found_same _ _ same) ∙ sections.0)
    (sym (ap refused_at (units_same _ _ same c.in_ok-sections.sections sections.1)) ∙ is))
    c.in_err-units.ensures c.from_residual-in_err-units.ensures.1

pub returns-in_err-tables : goal.returns-in_err-tables
returns-in_err-tables c =
    let same = c.in_ok-elf.ensures.1 in
    let sections = c.in_ok-sections.ensures in
    let units = c.in_ok-units.ensures in
    stops_with _ _ _ _ _ c.from_residual-in_err-tables.result
    (λ place is. in_rows c.args.file.now c.requires place c.in_ok-elf.ensures.0 (sym (found_same _ _ same) ∙ sections.0)
    (sym (ap refused_at (units_same _ _ same c.in_ok-sections.sections sections.1)) ∙ units.0)
    (sym (ap result_err (rows_same _ _ same c.in_ok-sections.sections sections.1 c.in_ok-units.units units.1)) ∙ is))
    c.in_err-tables.ensures c.from_residual-in_err-tables.ensures.1

pub returns-in_err-gathered : goal.returns-in_err-gathered
returns-in_err-gathered c =
    let same = c.in_ok-elf.ensures.1 in
    let sections = c.in_ok-sections.ensures in
    let units = c.in_ok-units.ensures in
    let source = source_same _ _ same c.in_ok-sections.sections sections.1 c.in_ok-units.units units.1 _ c.info_start.ensures in
    stops_with _ _ _ _ _ c.from_residual-in_err-gathered.result
    (λ place is. in_members c.args.file.now c.requires c.in_ok-elf.ensures.0 (sym (found_same _ _ same) ∙ sections.0)
    (sym (ap refused_at (units_same _ _ same c.in_ok-sections.sections sections.1)) ∙ units.0)
    (sym (ap result_err (rows_same _ _ same c.in_ok-sections.sections sections.1 c.in_ok-units.units units.1)) ∙ c.in_ok-tables.ensures.0)
    ∙ sym (ap result_err (members_same _ _ same _ source)) ∙ is)
    c.in_err-gathered.ensures.judged c.from_residual-in_err-gathered.ensures.1

pub returns-in_err-tree : goal.returns-in_err-tree
returns-in_err-tree c = lacks _ _ c.from_residual-in_err-tree.result c.from_residual-in_err-tree.ensures.1

pub returns-in_err-functions : goal.returns-in_err-functions
returns-in_err-functions c = lacks _ _ c.from_residual-in_err-functions.result c.from_residual-in_err-functions.ensures.1

pub returns : goal.returns
returns c =
    let same = c.in_ok-elf.ensures.1 in
    let sections = c.in_ok-sections.ensures in
    let units = c.in_ok-units.ensures in
    let told = told_same _ _ same c.in_ok-sections.sections sections.1 c.in_ok-units.units units.1 in
    let source = source_same _ _ same c.in_ok-sections.sections sections.1 c.in_ok-units.units units.1 _ c.info_start.ensures in
    let good = in_members c.args.file.now c.requires c.in_ok-elf.ensures.0 (sym (found_same _ _ same) ∙ sections.0)
    (sym (ap refused_at (units_same _ _ same c.in_ok-sections.sections sections.1)) ∙ units.0)
    (sym (ap result_err (rows_same _ _ same c.in_ok-sections.sections sections.1 c.in_ok-units.units units.1)) ∙ c.in_ok-tables.ensures.0)
    ∙ sym (ap result_err (members_same _ _ same _ source)) ∙ c.in_ok-gathered.ensures.judged.0 in (
      good,
      record {
        told = made_told _ _ same _ _ _ source (made-same _ _ _ _ _ c.in_ok-tree.ensures.names c.in_ok-tree.ensures.members c.in_ok-gathered.ensures.judged.1);
        tables_are = tables_same _ _ same c.in_ok-sections.sections sections.1 c.in_ok-units.units units.1 _ c.in_ok-tables.ensures.1;
        functions = subst (λ ms. AreFunctions ms c.in_ok-functions.functions) c.deref.ensures.value c.in_ok-functions.ensures;
        base_is = refl;
        loads_are = c.in_ok-loads.ensures ∙ ap code_loads same;
        read_are = c.counts-read.ensures.read ∙ ap length (ap (λ u. u.units) told);
        passed_are = c.counts-read.ensures.passed ∙ ap length (ap (λ u. u.skipped) told);
      },
    )
