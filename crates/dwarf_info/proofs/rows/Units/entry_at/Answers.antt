use Rattle.std.proofs.Common.{rules, List, length, get_or, Some, None, sym, ap, ◌∙◌, subst, arith, ltb}
use Rattle.std.proofs.lemmas.List.Sorted.{IsPartitionPoint-from_clause, IsPartitionedBy-ltb}
use Rattle.unit_model.specs.Units as model
use Rattle.dwarf_info.specs.declared.rows.EntryRow.{EntryRow}
use Rattle.dwarf_info.specs.Found.{FindsEntry}
use Rattle.dwarf_info.specs.Rows.{Ascend}
use Rattle.dwarf_info.proofs.FoundLemmas.{FindsEntry-at, FindsEntry-miss, FindsEntry-none, IsFirstFrom, first_from, rows-ascend, rows-rise}
use Rattle.dwarf_info.proofs.rows.Units.entry_at.Goals as goal

pub returns-in-Some : goal.returns-in-Some
returns-in-Some c =
    let entries = c.self.inside.so_far.entries in
    let found = c.in-Some.ensures.lookup in
    let long = ap (λ (rs : List EntryRow). length rs) c.deref-2.ensures.value in
    subst (λ (u : model.Units). FindsEntry u.entries c.args.at (Some c.partition_point-number.result)) c.self.view_is
    (FindsEntry-at entries.found entries.rows.items c.args.at _ _ _ (omega (arith, found.3.0, long))
    (found.1 ∙ ap (λ (rs : List EntryRow). get_or rs c.partition_point-number.result c.in-Some.row.now) c.deref-2.ensures.value) c.if-row-at.true)

pub returns-in_default : goal.returns-in_default
returns-in_default c =
    let entries = c.self.inside.so_far.entries in
    let found = c.in-Some.ensures.lookup in
    let long = ap (λ (rs : List EntryRow). length rs) c.deref-2.ensures.value in
    let ascend : Ascend c.deref.result.now = subst (λ (rs : List EntryRow). Ascend rs) (sym c.deref.ensures.value) (rows-ascend entries.found entries.rows.items c.self.invariant.1.order.ascending) in
    let parted = IsPartitionedBy-ltb (λ row. row.at) c.deref.result.now c.args.at (rows-rise _ ascend) in
    let point = first_from _ _ _ (IsPartitionPoint-from_clause (λ row. ltb row.at c.args.at) _ _ c.partition_point-number.ensures.partitioned parted (λ a r q k. search rules)) in
    let first = subst (λ (rs : List EntryRow). IsFirstFrom rs c.partition_point-number.result c.args.at) c.deref.ensures.value point in
    subst (λ (u : model.Units). FindsEntry u.entries c.args.at None) c.self.view_is
    (FindsEntry-miss entries.found entries.rows.items c.args.at _ _ _ (rows-ascend entries.found entries.rows.items c.self.invariant.1.order.ascending) (omega (arith, found.3.0, long))
    (found.1 ∙ ap (λ (rs : List EntryRow). get_or rs c.partition_point-number.result c.in-Some.row.now) c.deref-2.ensures.value) first c.if-row-at.false)

pub returns-in_default-2 : goal.returns-in_default-2
returns-in_default-2 c =
    let entries = c.self.inside.so_far.entries in
    let ascend : Ascend c.deref.result.now = subst (λ (rs : List EntryRow). Ascend rs) (sym c.deref.ensures.value) (rows-ascend entries.found entries.rows.items c.self.invariant.1.order.ascending) in
    let parted = IsPartitionedBy-ltb (λ row. row.at) c.deref.result.now c.args.at (rows-rise _ ascend) in
    let point = first_from _ _ _ (IsPartitionPoint-from_clause (λ row. ltb row.at c.args.at) _ _ c.partition_point-number.ensures.partitioned parted (λ a r q k. search rules)) in
    let first = subst (λ (rs : List EntryRow). IsFirstFrom rs c.partition_point-number.result c.args.at) c.deref.ensures.value point in
    let none = rw c.in_default.is at c.get.ensures.lookup in
    let long = ap (λ (rs : List EntryRow). length rs) c.deref-2.ensures.value in
    subst (λ (u : model.Units). FindsEntry u.entries c.args.at None) c.self.view_is
    (FindsEntry-none entries.found entries.rows.items c.args.at _ (omega (arith, none.3, long)) first)
