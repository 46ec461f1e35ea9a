use Rattle.std.proofs.Common.{◌≡◌, Ok, Err, IfOk, rules}
use Rattle.std.proofs.lemmas.List.Sorted.{IsNonDecreasingBy-from_sort_by_key}
use Rattle.elf_sections.specs.Reach.{AreReaches, reaches_from}
use Rattle.elf_sections.proofs.ReachLemmas.{reaches_tell}
use Rattle.elf_sections.proofs.reach.reaches_of.Goals as goal

pub returns : goal.returns
returns c =
    let sorted = c.sort_unstable_by_key.new.self.items in
    elim c.rising.result as (λ r. IfOk r (λ made. made.items ≡ reaches_from 0 c.deref.result.now) → IfOk r (λ reaches. AreReaches c.args.segments.now reaches.items)) [
      | Ok made ↦ λ is.
          reaches_tell c.args.segments.now c.in_ok-loads.loads.items sorted made.items c.in_ok-loads.ensures c.sort_unstable_by_key.ensures.permutation
          (IsNonDecreasingBy-from_sort_by_key (λ load. load.vaddr) _ c.sort_unstable_by_key.ensures.sorted (λ a r q k. search rules))
          (rw c.deref.ensures.value at is)
      | Err stop ↦ λ _. tt
    ] c.rising.ensures
