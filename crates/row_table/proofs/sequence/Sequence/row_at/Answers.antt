use Rattle.std.proofs.Common.{◌≡◌, ℕ, suc, ◌-◌, List, ap, sym, subst, ◌∙◌, rules, leb, arith, true, false, get_or, length}
use Rattle.std.specs.Option.{option_map}
use Rattle.std.specs.List.Sorted.{IsNonDecreasingBy, IsPartitionPoint}
use Rattle.std.proofs.lemmas.List.Sorted.{IsPartitionPoint-from_clause, IsPartitionedBy-leb}
use Rattle.line_model.specs.declared.row.Row.{Row}
use Rattle.row_table.specs.Told.{data_of}
use Rattle.row_table.proofs.LastLemmas.{rising_rows, last-none, last-some}
use Rattle.row_table.proofs.sequence.Sequence.row_at.Goals as goal

pub returns-then-behind-eq0 : goal.returns-then-behind-eq0
returns-then-behind-eq0 c =
    let a = c.args.address in
    let are : c.deref.result.now ≡ c.args.self.now.rows = c.deref.ensures.value ∙ ap (λ s. s.rows) c.self.view_is in
    let rise = subst (λ (rs : List Row). IsNonDecreasingBy (λ row. row.address) rs) (sym are) (rising_rows _ c.requires) in
    let point = IsPartitionPoint-from_clause (λ row. leb row.address a) _ _ c.partition_point-behind.ensures.partitioned (IsPartitionedBy-leb (λ row. row.address) _ a rise) (λ r b q k. search rules) in
    let at_0 = subst (λ (i : ℕ). IsPartitionPoint (λ row. leb row.address a ≡ true) (λ row. leb row.address a ≡ false) c.deref.result.now i) c.if-behind-eq0.true point in
    let here = subst (λ (rs : List Row). IsPartitionPoint (λ row. leb row.address a ≡ true) (λ row. leb row.address a ≡ false) rs 0) are at_0 in
    sym (ap (option_map data_of) (last-none a c.args.self.now.rows here))

pub returns : goal.returns
returns c =
    let a = c.args.address in
    let i : ℕ = c.partition_point-behind.result - 1 in
    let are : c.deref.result.now ≡ c.args.self.now.rows = c.deref.ensures.value ∙ ap (λ s. s.rows) c.self.view_is in
    let rise = subst (λ (rs : List Row). IsNonDecreasingBy (λ row. row.address) rs) (sym are) (rising_rows _ c.requires) in
    let point = IsPartitionPoint-from_clause (λ row. leb row.address a) _ _ c.partition_point-behind.ensures.partitioned (IsPartitionedBy-leb (λ row. row.address) _ a rise) (λ r b q k. search rules) in
    let next : c.partition_point-behind.result ≡ suc i = omega (arith, c.if-behind-eq0.false) in
    let at = subst (λ (n : ℕ). IsPartitionPoint (λ row. leb row.address a ≡ true) (λ row. leb row.address a ≡ false) c.deref.result.now n) next point in
    let here = subst (λ (rs : List Row). IsPartitionPoint (λ row. leb row.address a ≡ true) (λ row. leb row.address a ≡ false) rs (suc i)) are at in
    let row = c.index-row.result.now in
    let is : row ≡ get_or c.args.self.now.rows i row = c.index-row.ensures ∙ ap (λ s. get_or s.rows i row) c.self.view_is in
    sym (ap (option_map data_of) (last-some a i c.args.self.now.rows row (omega (arith, c.if-behind-eq0.false, c.partition_point-behind.ensures.bound, ap length are)) is here))
