use Rattle.std.proofs.Common.{◌≡◌, ◌≤◌, ◌<◌, ℕ, None, arith, ap, subst, sym, ◌∙◌}
use Rattle.weight_model.specs.Blocks.{IsLargestCount}
use Rattle.key_types.specs.Segments.{key_told}
use Rattle.block_weights.specs.Counts.{Counted, count_in, counts_of}
use Rattle.block_weights.specs.Largest.{largest_in}
use Rattle.block_weights.proofs.WeightLemmas.{IsRun, no_weight, weight_of_run}
use Rattle.block_weights.proofs.counted.SegmentCounts.weight_of.Goals as goal

pub returns-then-end-first-clause-weight : goal.returns-then-end-first-clause-weight
returns-then-end-first-clause-weight c =
    let lo = c.args.block.now.lo in
    let hi = c.args.block.now.hi in
    let run : IsRun c.self.inside.segments.now lo hi c.first_behind-first.result c.end_below-end.result = record {
      within = c.end_below-end.ensures.within.1;
      passed = c.first_behind-first.ensures.passed;
      ahead = c.first_behind-first.ensures.ahead;
      below = c.end_below-end.ensures.below;
      behind = c.end_below-end.ensures.from;
    } in
    subst (λ (s : Counted). (a : ℕ) → lo ≤ a → a < hi → key_told s.segments a ≡ None) c.self.view_is
    (no_weight _ lo hi _ _ run (omega arith))

pub returns-clause-weight : goal.returns-clause-weight
returns-clause-weight c =
    let lo = c.args.block.now.lo in
    let hi = c.args.block.now.hi in
    let segments = c.self.inside.segments.now in
    let counts = c.self.inside.counts.now in
    let first = c.first_behind-first.result in
    let end = c.end_below-end.result in
    let run : IsRun segments lo hi first end = record {
      within = c.end_below-end.ensures.within.1;
      passed = c.first_behind-first.ensures.passed;
      ahead = c.first_behind-first.ensures.ahead;
      below = c.end_below-end.ensures.below;
      behind = c.end_below-end.ensures.from;
    } in
    let largest : c.largest.result ≡ largest_in (counts_of counts segments) first end =
    c.largest.ensures ∙ sym (ap (λ (s : Counted). largest_in (counts_of s.counts s.segments) first end) c.self.view_is) in
    subst (λ (s : Counted). IsLargestCount (key_told s.segments) (count_in s.counts) lo hi c.largest.result) c.self.view_is
    (subst (λ (n : ℕ). IsLargestCount (key_told segments) (count_in counts) lo hi n) (sym largest)
    (weight_of_run segments counts lo hi first end c.self.invariant.0 (omega arith) (omega arith) run))
