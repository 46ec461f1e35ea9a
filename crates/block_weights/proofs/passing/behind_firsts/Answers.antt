use Rattle.std.proofs.Common.{List, ap, subst, sym, ◌∙◌}
use Rattle.std.specs.Prelude.{flat_map}
use Rattle.std.proofs.lemmas.List.{take_all}
use Rattle.profile_model.specs.declared.ran_range.RanRange.{RanRange}
use Rattle.profile_model.specs.Hits.{AreRanges}
use Rattle.block_weights.specs.Passing.{behind_first}
use Rattle.block_weights.proofs.PassingLemmas.{ranges_behind}
use Rattle.block_weights.proofs.passing.behind_firsts.Goals as goal

pub returns-clause-ranges : goal.returns-clause-ranges
returns-clause-ranges c =
    let all = c.loop-range.invariant ∙ ap (flat_map behind_first) (take_all c.loop-range.range-index c.args.ran.now c.loop-range-test.false) in
    subst (λ (rs : List RanRange). AreRanges rs) (sym all) (ranges_behind c.args.ran.now)
