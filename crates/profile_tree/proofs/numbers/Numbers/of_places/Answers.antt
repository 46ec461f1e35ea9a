use Rattle.std.proofs.Common.{subst, sym}
use Rattle.profile_model.specs.Steps.{hits_by}
use Rattle.profile_lists.proofs.PlaceLemmas.{counts_are_those_of_places}
use Rattle.profile_tree.specs.Said.{AreCountsOfPlaces}
use Rattle.profile_tree.proofs.numbers.Numbers.of_places.Goals as goal

pub returns-clause-counts : goal.returns-clause-counts
returns-clause-counts c =
    let segments = c.args.segments.now in
    let hits = hits_by c.args.hits.now in
    subst (AreCountsOfPlaces segments hits) (sym c.new.ensures.counts)
    (λ key low. counts_are_those_of_places segments hits key _ c.requires.segments (c.in_ok-counts.ensures.counts key low))
