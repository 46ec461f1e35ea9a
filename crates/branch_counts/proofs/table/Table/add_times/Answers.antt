-- The pair stands in the index, so its row grows; or it does not, and gets a row.
use Rattle.std.proofs.Common.{sym, ap, ◌∙◌}
use Rattle.branch_counts.specs.Table.{Table}
use Rattle.branch_counts.proofs.TableLemmas.{AddsPairs-at, AddsPairs-new, pairs-at, insert_key-present}
use Rattle.branch_counts.proofs.table.Table.add_times.Goals as goal

pub invariant_of-self-else-is_new : goal.invariant_of-self-else-is_new
invariant_of-self-else-is_new c =
    let keys = rw c.unwrap-place.ensures at c.insert.ensures.keys in
    let added = rw c.unwrap-place.ensures at c.insert.ensures.added in
    keys ∙ insert_key-present _ _ (sym c.if-is_new.false ∙ added) ∙ pairs-at _ _ _ _ _ c.self.invariant c.index_mut.ensures.value

pub returns-then-is_new-clause-added : goal.returns-then-is_new-clause-added
returns-then-is_new-clause-added c =
    let added = rw c.unwrap-place.ensures at c.insert.ensures.added in
    rw c.push_reserved.ensures.items (AddsPairs-new _ _ _ _ _ _ c.self.invariant (sym c.if-is_new.true ∙ added) c.requires.positive (sym (ap (λ (t : Table). t.rows) c.self.view_is)))

pub returns-else-is_new-clause-added : goal.returns-else-is_new-clause-added
returns-else-is_new-clause-added c =
    let keys = rw c.unwrap-place.ensures at c.insert.ensures.keys in
    let added = rw c.unwrap-place.ensures at c.insert.ensures.added in
    let stored = rw c.unwrap-place.ensures at c.insert.ensures.stored in
    AddsPairs-at _ _ _ _ _ _ _ _ (keys ∙ insert_key-present _ _ (sym c.if-is_new.false ∙ added) ∙ c.self.invariant) stored.1 stored.2 c.index_mut.ensures.value c.requires.positive (sym (ap (λ (t : Table). t.rows) c.self.view_is))
