use Rattle.std.proofs.Common.{◌∙◌, ◌++◌, ◌<◌, ap, length, subst, sym}
use Rattle.std.specs.List.{AllByRecursion}
use Rattle.std.proofs.lemmas.List.Elements.{All-from_recursion, recursion_from_All}
use Rattle.key_types.specs.declared.ids.KeyId.{KeyId}
use Rattle.profile_tree.proofs.ListLemmas.{all_append}
use Rattle.profile_tree.specs.Said.{ways_said}
use Rattle.cold_maker.proofs.BesidesLemmas.{told_are, told_given, ways_behind}
use Rattle.cold_maker.proofs.besides.besides_of.Goals as goal

pub returns-clause-ways : goal.returns-clause-ways
returns-clause-ways c =
    let names = c.args.names.now in
    let keys = c.args.keys.now in
    ways_behind names keys c.in_ok-besides.besides.items c.in_ok-standing.standing.items _ c.in_ok-append.ensures.items
    ∙ (λ i. (ap (ways_said names keys) c.in_ok-besides.ensures ∙ told_are names keys c.args.items.now) i ++ c.in_ok-standing.ensures.ways i)

pub returns-clause-given : goal.returns-clause-given
returns-clause-given c =
    let keys = length c.args.keys.now in
    All-from_recursion (λ (key : KeyId). key.0 < keys) _
    (subst (AllByRecursion (λ (key : KeyId). key.0 < keys)) (sym c.in_ok-append.ensures.items)
    (all_append (λ (key : KeyId). key.0 < keys) c.in_ok-besides.besides.items c.in_ok-standing.standing.items
    (subst (AllByRecursion (λ (key : KeyId). key.0 < keys)) (sym c.in_ok-besides.ensures) (told_given (length c.args.names.now) keys c.args.items.now c.requires.given))
    (recursion_from_All (λ (key : KeyId). key.0 < keys) c.in_ok-standing.standing.items c.in_ok-standing.ensures.given)))
