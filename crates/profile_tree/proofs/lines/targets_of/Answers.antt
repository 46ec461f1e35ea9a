use Rattle.std.proofs.Common.{◌==◌, ◌<◌, All, length, subst, sym}
use Rattle.std.proofs.lemmas.List.Elements.{All-filter}
use Rattle.profile_tree.proofs.lines.targets_of.Goals as goal

pub bounds-ids-target : goal.bounds-ids-target
bounds-ids-target c =
    let ids = c.as_slice-ids.result.now in
    let targets = c.args.parts.now.targets.now in
    let low : All (λ t. t.rank < length ids) targets = subst (λ xs. All (λ t. t.rank < length xs) targets) (sym c.as_slice-ids.ensures) c.requires in
    let mine : All (λ t. t.rank < length ids) c.of_key-target-items.result.now =
    subst (All (λ t. t.rank < length ids)) (sym c.of_key-target-items.ensures) (All-filter (λ t. t.key == c.args.key) (λ t. t.rank < length ids) targets low) in
    mine c.loop-target.target-index (record { key = 0; times = record { 0 = 0 }; rank = 0 }) c.loop-target-test.true
