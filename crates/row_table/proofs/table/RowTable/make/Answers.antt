use Rattle.std.proofs.Common.{◌≤◌, List, length, subst, sym}
use Rattle.std.specs.List.{AllByRecursion}
use Rattle.line_model.specs.Rows.{Sequence}
use Rattle.row_table.specs.Index.{IsRising, IsIndex, HaveAddresses}
use Rattle.row_table.specs.Told.{row_count}
use Rattle.row_table.proofs.IndexLemmas.{live_rise}
use Rattle.row_table.proofs.SequenceLemmas.{few_rows}
use Rattle.row_table.proofs.table.RowTable.make.Goals as goal

pub invariant_of-result : goal.invariant_of-result
invariant_of-result c = (
  subst (λ (ss : List Sequence). AllByRecursion IsRising ss) (sym c.in_ok-sequences.ensures) (live_rise c.args.elf.now c.args.rows.now),
  subst (λ (ss : List Sequence). IsIndex ss c.in_ok-spans.spans.items) c.deref.ensures.value c.in_ok-spans.ensures,
  subst (λ (ss : List Sequence). HaveAddresses ss c.in_ok-cuts.cuts.items) c.deref-2.ensures.value c.in_ok-cuts.ensures,
)

pub returns-clause-few : goal.returns-clause-few
returns-clause-few c =
    subst (λ (ss : List Sequence). row_count ss ≤ length c.args.rows.now) (sym c.in_ok-sequences.ensures) (few_rows c.args.elf.now c.args.rows.now)
