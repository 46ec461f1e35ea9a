use Rattle.std.proofs.Common.{◌≡◌, ◌+◌, ◌≤◌, ◌-◌, ℕ, List, true, false, ap, sym, arith, subst, rules, leb, ltb, take, drop, length, length-drop}
use Rattle.std.specs.List.Sorted.{IsPartitionPoint, IsNonDecreasingBy}
use Rattle.std.proofs.lemmas.List.Sorted.{IsPartitionPoint-from_clause, IsPartitionedBy-leb, IsPartitionedBy-ltb, IsNonDecreasingBy-drop}
use Rattle.row_table.specs.Told.{told}
use Rattle.context_map.specs.Parts.{IsCutUp}
use Rattle.context_map.proofs.CutLemmas.{non_decreasing, all_behind, around, cut_up}
use Rattle.context_map.proofs.cuts.cuts_between.Goals as goal

pub returns : goal.returns
returns c =
    let cuts = c.cuts-cuts.result.now in
    let are = c.cuts-cuts.ensures.cuts in
    let i = c.partition_point-first.result in
    let k = c.partition_point-count.result in
    let rise = non_decreasing cuts are.ascending in
    let first = IsPartitionPoint-from_clause (λ cut. leb cut c.args.lo) _ _ c.partition_point-first.ensures.partitioned (IsPartitionedBy-leb (λ cut. cut) _ c.args.lo rise) (λ a r q k. search rules) in
    let whole : take (length cuts - i) (drop i cuts) ≡ drop i cuts = all_behind cuts i in
    let rest = subst (λ (xs : List ℕ). IsNonDecreasingBy (λ cut. cut) xs) (sym whole) (IsNonDecreasingBy-drop (λ cut. cut) i cuts rise) in
    let inner = IsPartitionPoint-from_clause (λ cut. ltb cut c.args.hi) _ _ c.partition_point-count.ensures.partitioned (IsPartitionedBy-ltb (λ cut. cut) _ c.args.hi rest) (λ a r q k. search rules) in
    let second = subst (λ (xs : List ℕ). IsPartitionPoint (λ cut. ltb cut c.args.hi ≡ true) (λ cut. ltb cut c.args.hi ≡ false) xs k) whole inner in
    let room : i + k ≤ length cuts = omega (arith, c.partition_point-count.ensures.bound, c.partition_point-first.ensures.bound, ap length whole, length-drop i cuts) in
    subst (λ (xs : List ℕ). IsCutUp (told c.args.table.now) c.args.lo c.args.hi (take k xs)) (sym whole)
    (cut_up (told c.args.table.now) cuts c.args.lo c.args.hi i k are c.requires room (around cuts c.args.lo c.args.hi i k first second))
