use Rattle.std.proofs.Common.{OnOk, IsSorted, subst}
use Rattle.std.specs.declared.cmp.Ordering.{Ordering}
use Rattle.profile_lists.proofs.CmpLemmas.{derived_item}
use Rattle.profile_lists.specs.declared.item.Item.{Item}
use Rattle.profile_lists.proofs.item.sort_items.Goals as goal

pub returns-clause-sorted : goal.returns-clause-sorted
returns-clause-sorted c = subst (λ (cmp : Item → Item → Ordering). OnOk c.sort.result (IsSorted cmp c.sort.new.self.items)) (λ i x y. derived_item x y i) c.sort.ensures.sorted
