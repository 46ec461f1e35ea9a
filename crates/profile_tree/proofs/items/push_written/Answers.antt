use Rattle.std.proofs.Common.{map, subst, sym}
use Rattle.std.proofs.lemmas.Result.{on_ok_weaker}
use Rattle.profile_tree.proofs.ItemLemmas.{Taken, taken_all, taken_one, taken_sorted}
use Rattle.profile_tree.specs.Items.{told_item}
use Rattle.profile_tree.specs.declared.items.Written.{Written}
use Rattle.profile_tree.proofs.items.push_written.Goals as goal
use Rattle.profile_tree.proofs.items.push_written.Goals.{then-key-rank+in_ok-append_sorted, else-key-rank}

pub loop-key-preserved : goal.loop-key-preserved
loop-key-preserved c =
    let tr = c.args.ranks.now.total.now in
    let nr = c.args.ranks.now.name.now in
    let keys = c.args.keys.now in
    let counts = c.args.counts.now in
    let ws = c.args.written.now in
    let was = map told_item c.args.items.now.items in
    let i = c.loop-key.key-index in
    let d : Written = record { rank = 0; id = 0 } in
    let far : Taken keys counts tr nr ws was i c.if-key-rank.items.items c.if-key-rank.group.items =
    elim c.if-key-rank.branch as (λ _. Taken keys counts tr nr ws was i c.if-key-rank.items.items c.if-key-rank.group.items) [
      | then-key-rank+in_ok-append_sorted w ↦
          subst (λ v. Taken keys counts tr nr ws was i v.items c.if-key-rank.group.items) (sym w.items-is)
          (subst (λ g. Taken keys counts tr nr ws was i w.append_sorted.new.items.items g.items) (sym w.group-is)
          (taken_sorted keys counts tr nr ws was i c.loop-key.items.items c.loop-key.group.items w.append_sorted.new.items.items w.append_sorted.new.group.items c.loop-key.invariant w.in_ok-append_sorted.ensures.same w.in_ok-append_sorted.ensures.empty))
      | else-key-rank w ↦
          subst (λ v. Taken keys counts tr nr ws was i v.items c.if-key-rank.group.items) (sym w.items-is)
          (subst (λ g. Taken keys counts tr nr ws was i c.loop-key.items.items g.items) (sym w.group-is) c.loop-key.invariant)
    ] in
    taken_one keys counts tr nr ws was i d c.if-key-rank.items.items c.if-key-rank.group.items c.push.new.self.items c.in_ok-item_of.field-0 c.loop-key-test.true c.in_ok-push.ensures.items c.in_ok-item_of.ensures far

pub returns : goal.returns
returns c =
    on_ok_weaker c.append_sorted-2.result
    (taken_all c.args.keys.now c.args.counts.now c.args.ranks.now.total.now c.args.ranks.now.name.now c.args.written.now (map told_item c.args.items.now.items) c.loop-key.key-index c.loop-key.items.items c.loop-key.group.items _ c.loop-key-test.false c.loop-key.invariant)
    c.append_sorted-2.ensures.same
