use Rattle.std.proofs.Common.{List, sym, subst, rules}
use Rattle.std.specs.List.Sorted.{IsNonDecreasingBy}
use Rattle.std.proofs.lemmas.List.Sorted.{IsNonDecreasingBy-from_sort_by_key}
use Rattle.profile_model.specs.Hits.{hits_at}
use Rattle.range_counts.specs.declared.changes.Change.{Change}
use Rattle.range_counts.specs.Changes.{AreSound}
use Rattle.range_counts.proofs.ChangeLemmas.{Tell, Tell-permutation, changes_tell, sound}
use Rattle.range_counts.proofs.SweepLemmas.{tell_hits}
use Rattle.range_counts.proofs.changes.sweep.Goals as goal

pub steps_of-requires-clause-rise : goal.steps_of-requires-clause-rise
steps_of-requires-clause-rise c =
    subst (λ (cs : List Change). IsNonDecreasingBy (λ change. change.at) cs) (sym c.deref.ensures.value)
    (IsNonDecreasingBy-from_sort_by_key (λ change. change.at) _ c.sort_unstable_by_key.ensures.sorted (λ a r q k. search rules))

pub steps_of-requires-clause-sound : goal.steps_of-requires-clause-sound
steps_of-requires-clause-sound c =
    subst (λ (cs : List Change). AreSound cs) (sym c.deref.ensures.value)
    (sound (hits_at c.args.ranges.now) _ (Tell-permutation _ _ _ c.sort_unstable_by_key.ensures.permutation (changes_tell _ _ c.requires.ranges c.requires.times c.in_ok-changes.ensures.changes)))

pub returns : goal.returns
returns c =
    tell_hits _ _ _ c.in_ok-changes.ensures.addresses
    (subst (λ (cs : List Change). Tell (hits_at c.args.ranges.now) cs) (sym c.deref.ensures.value)
    (Tell-permutation _ _ _ c.sort_unstable_by_key.ensures.permutation (changes_tell _ _ c.requires.ranges c.requires.times c.in_ok-changes.ensures.changes)))
    c.in_ok-steps.ensures.hits
