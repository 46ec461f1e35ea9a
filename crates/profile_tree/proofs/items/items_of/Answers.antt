use Rattle.std.proofs.Common.{◌≡◌, ◌++◌, IsPermutation, map, subst}
use Rattle.profile_tree.proofs.ItemLemmas.{all_items, written_low}
use Rattle.profile_tree.specs.Items.{entered, of_count, ranked_source, told_item}
use Rattle.profile_tree.proofs.items.items_of.Goals as goal

pub push_written-requires-clause-given : goal.push_written-requires-clause-given
push_written-requires-clause-given c = written_low _ _ _ _ c.deref.ensures.value c.in_ok-written.ensures

pub returns : goal.returns
returns c =
    let keys = c.args.keys.now in
    let numbers = c.args.numbers.now in
    let source = ranked_source c.args.ranks.now.total.now c.args.ranks.now.name.now in
    let none = c.new-items.result.items in
    let first = c.push_written.new.items.items in
    let ids = map (λ w. w.id) c.deref.result.now in
    all_items keys numbers.counts c.args.ranks.now.total.now c.args.ranks.now.name.now numbers.calls c.args.besides.now numbers.heads
    c.in_ok-written.written.items c.deref.result.now none first c.push_entered.new.items.items
    c.new-items.ensures.items c.deref.ensures.value c.in_ok-written.ensures
    (subst (λ counts. IsPermutation (map told_item first) (map told_item none ++ map source (map (of_count keys counts) ids))) c.counts.ensures c.in_ok-push_written.ensures)
    (subst (λ heads. map told_item c.push_entered.new.items.items ≡ map told_item first ++ map source (entered heads)) c.heads.ensures.same c.in_ok-push_entered.ensures)
