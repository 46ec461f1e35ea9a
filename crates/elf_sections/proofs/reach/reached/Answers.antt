use Rattle.std.proofs.Common.{rules, leb, leb-true, leb-false, arith, ℕ, zero, suc, ◌≤◌}
use Rattle.std.proofs.lemmas.List.Sorted.{IsPartitionPoint-from_clause, IsPartitionedBy-leb}
use Rattle.elf_sections.proofs.ReachLemmas.{farthest-at, farthest-none}
use Rattle.elf_sections.proofs.reach.reached.Goals as goal

pub returns-in-Some : goal.returns-in-Some
returns-in-Some c =
    let parted = IsPartitionedBy-leb (λ reach. reach.from) c.args.reaches.now c.args.address c.requires in
    let point = IsPartitionPoint-from_clause (λ reach. leb reach.from c.args.address) _ _ c.partition_point-begun.ensures.partitioned parted (λ a r q k. search rules) in
    let last = c.in-Some.ensures in
    farthest-at 0 c.args.address c.in-Some.last c.args.reaches.now _ (omega (arith, last.0, last.1, c.partition_point-begun.ensures.bound))
    (λ k d below within. leb-true _ _ (point.0 k d (omega arith) (omega (arith, below, last.0, last.1))))
    (λ k d above within. leb-false _ _ (point.1 k d (omega (arith, above, last.0, last.1)) within))

pub returns-in-None : goal.returns-in-None
returns-in-None c =
    let parted = IsPartitionedBy-leb (λ reach. reach.from) c.args.reaches.now c.args.address c.requires in
    let point = IsPartitionPoint-from_clause (λ reach. leb reach.from c.args.address) _ _ c.partition_point-begun.ensures.partitioned parted (λ a r q k. search rules) in
    let begun : c.partition_point-begun.result ≤ 0 = by c.partition_point-begun.result (c.in-None.ensures) in
    farthest-none 0 c.args.address c.args.reaches.now (λ k d within. leb-false _ _ (point.1 k d (omega (arith, begun)) within))
  where
    by : (n : ℕ) → (1 ≤ n → ⊥) → n ≤ 0
    by zero none = omega arith
    by (suc n) none = absurd (none (omega arith))
