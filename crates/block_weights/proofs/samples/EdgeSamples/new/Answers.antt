use Rattle.std.proofs.Common.{ap, arith, rules, subst, ◌∙◌}
use Rattle.std.proofs.lemmas.List.Sorted.{IsNonDecreasingBy-from_sort_by_key, sum_by-IsPermutation}
use Rattle.sample_model.specs.declared.pair.Pair.{Pair}
use Rattle.profile_model.specs.Hits.{times_of}
use Rattle.weight_model.specs.Edges.{taken}
use Rattle.block_weights.specs.Sampled.{AreSums, branches_taken, rank}
use Rattle.block_weights.proofs.PassingLemmas.{passed_fits, passed_steps, times_behind}
use Rattle.block_weights.proofs.TakenLemmas.{taken-permutation}
use Rattle.block_weights.proofs.samples.EdgeSamples.new.Goals as goal

pub sweep-requires-clause-times : goal.sweep-requires-clause-times
sweep-requires-clause-times c =
    let same = c.deref.ensures.value ∙ c.in_ok-behind_firsts.ensures.same in
    omega (arith, c.requires.ran, times_behind c.args.ran.now, ap times_of same)

pub invariant_of-result : goal.invariant_of-result
invariant_of-result c =
    let same = c.deref.ensures.value ∙ c.in_ok-behind_firsts.ensures.same in (
      record {
        rise = IsNonDecreasingBy-from_sort_by_key (λ branch. rank branch.to branch.from) _ c.sort_unstable_by_key.ensures.sorted (λ a r q k. search rules);
        taken_fits = omega (arith, c.requires.branches, sum_by-IsPermutation (λ (b : Pair). b.times) _ _ c.sort_unstable_by_key.ensures.permutation);
        passed_fits = λ a. passed_fits c.args.ran.now _ _ a same c.in_ok-passing.ensures c.requires.ran;
      },
      subst (λ branches. AreSums branches c.in_ok-sums.sums.items) c.deref-2.ensures.value c.in_ok-sums.ensures,
    )

pub returns : goal.returns
returns c =
    let same = c.deref.ensures.value ∙ c.in_ok-behind_firsts.ensures.same in
    record {
      taken_same = taken-permutation _ _ c.sort_unstable_by_key.ensures.permutation;
      passed_same = passed_steps c.args.ran.now _ _ same c.in_ok-passing.ensures;
    }
