use Rattle.std.proofs.Common.{◌∙◌}
use Rattle.profile_writer.proofs.BranchLemmas.{calls_small, heads_small}
use Rattle.profile_writer.proofs.RanLemmas.{hits_small, none_beyond, on_ok, times_small}
use Rattle.profile_writer.proofs.tree.numbers_of.Goals as goal

pub sweep-requires-clause-times : goal.sweep-requires-clause-times
sweep-requires-clause-times g c = times_small _ c.args.ranges.now (c.deref.ensures.value ∙ c.in_ok-ran_of.ensures) c.requires.few_ranges

pub of_places-requires-clause-hits : goal.of_places-requires-clause-hits
of_places-requires-clause-hits g c = hits_small _ _ c.args.ranges.now c.in_ok-hits.ensures (c.deref.ensures.value ∙ c.in_ok-ran_of.ensures) c.requires.few_ranges

pub of_places-requires-clause-call_sums : goal.of_places-requires-clause-call_sums
of_places-requires-clause-call_sums g c = calls_small _ _ c.args.branches.now c.in_ok-calls.ensures c.requires.few_branches

pub of_places-requires-clause-head_sums : goal.of_places-requires-clause-head_sums
of_places-requires-clause-head_sums g c = heads_small _ c.args.branches.now c.in_ok-heads.ensures c.requires.few_branches

pub returns-clause-beyond : goal.returns-clause-beyond
returns-clause-beyond g c =
    on_ok c.of_places.result _ (none_beyond c.in_ok-hits.hits _ c.args.ranges.now c.in_ok-hits.ensures (c.deref.ensures.value ∙ c.in_ok-ran_of.ensures))
