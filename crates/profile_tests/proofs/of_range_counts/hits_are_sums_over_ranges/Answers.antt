use Rattle.std.proofs.Common.{List, [], ◌∷◌}
use Rattle.profile_model.specs.declared.ran_range.RanRange.{RanRange}
use Rattle.profile_tests.proofs.RangeLemmas.{ranges-cons, ranges-nil}
use Rattle.profile_tests.proofs.of_range_counts.hits_are_sums_over_ranges.Goals as goal

pub sweep-requires-clause-ranges : goal.sweep-requires-clause-ranges
sweep-requires-clause-ranges g c =
    let none : List RanRange = [] in
    let from_6 : List RanRange = c.range-6.result ∷ none in
    let from_5 : List RanRange = c.range-5.result ∷ from_6 in
    let from_4 : List RanRange = c.range-4.result ∷ from_5 in
    let from_3 : List RanRange = c.range-3.result ∷ from_4 in
    let from_2 : List RanRange = c.range-2.result ∷ from_3 in
    let from_1 : List RanRange = c.range.result ∷ from_2 in
    ranges-cons c.range.result from_2 c.range.ensures.order (ranges-cons c.range-2.result from_3 c.range-2.ensures.order (ranges-cons c.range-3.result from_4 c.range-3.ensures.order (ranges-cons c.range-4.result from_5 c.range-4.ensures.order (ranges-cons c.range-5.result from_6 c.range-5.ensures.order (ranges-cons c.range-6.result none c.range-6.ensures.order ranges-nil)))))
