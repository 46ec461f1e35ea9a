use Rattle.std.proofs.Common.{◌++◌, ◌∷◌, [], ℕ, List, length, get_or, ap, refl, ◌∙◌, arith, length-append}
use Rattle.load_model.specs.declared.load_segment.LoadSegment.{LoadSegment}
use Rattle.sample_model.specs.declared.load.Load.{Load}
use Rattle.sample_model.specs.Moves.{LoadMap, move_of, or_0}
use Rattle.branch_stacks.specs.Loads.{range_behind}
use Rattle.branch_stacks.proofs.LoadLemmas.{MovedSoFar-none, MovedSoFar-turn, length-range_behind}
use Rattle.branch_stacks.proofs.loads.Loads.move_branches.Goals as goal

pub loop-from-init : goal.loop-from-init
loop-from-init c =
    let branches = c.try_reserve.ensures.items ∙ c.clear.ensures.items in
    let ranges = c.try_reserve-2.ensures.items ∙ c.clear-2.ensures.items in (
      MovedSoFar-none _ _ _ branches ranges,
      refl,
      refl,
      omega (arith, ap (λ (t : List (ℕ × ℕ)). length t) branches),
      omega (arith, ap (λ (t : List (ℕ × ℕ)). length t) ranges),
      omega (arith, c.in_ok-try_reserve.ensures.ok),
      omega (arith, c.in_ok-try_reserve-2.ensures.ok),
    )

pub loop-from-preserved : goal.loop-from-preserved
loop-from-preserved c =
    let invariant = c.loop-from.invariant in
    let entry : ℕ × ℕ = get_or c.args.branches.now c.loop-from.from-index (0, 0) in
    let old = c.loop-from.self in
    let segments = ap (λ (m : LoadMap). m.segments) invariant.1 in
    let source = c.move_of-source.ensures ∙ ap (λ (s : List LoadSegment). move_of s old.met entry.0) segments ∙ ap (λ (m : List Load). move_of c.args.self.now.segments m entry.0) invariant.2 in
    let target = c.move_of-target.ensures ∙ ap (λ (s : List LoadSegment). move_of s old.met entry.1) segments ∙ ap (λ (m : List Load). move_of c.args.self.now.segments m entry.1) invariant.2 in
    let pushed = c.push_reserved.ensures.items
    ∙ ap (λ (a : ℕ). old.branches.items ++ (a, c.or_0-in-loop-from.result) ∷ []) c.or_0.ensures
    ∙ ap (λ (b : ℕ). old.branches.items ++ (or_0 c.move_of-source.result, b) ∷ []) c.or_0-in-loop-from.ensures in (
      MovedSoFar-turn _ c.args.branches.now c.loop-from.from-index old.branches.items old.ranges.items _ _ c.loop-from.newer _ _ (omega arith) invariant.0 source target pushed c.push_range.ensures.pushed,
      invariant.1,
      invariant.2,
      omega (
        arith,
        invariant.3,
        ap (λ (t : List (ℕ × ℕ)). length t) c.push_reserved.ensures.items,
        length-append old.branches.items ((c.or_0.result, c.or_0-in-loop-from.result) ∷ []),
      ),
      omega (
        arith,
        invariant.4,
        ap (λ (t : List (ℕ × ℕ)). length t) c.push_range.ensures.pushed,
        length-append old.ranges.items (range_behind c.loop-from.newer c.move_of-target.result),
        length-range_behind c.loop-from.newer c.move_of-target.result,
      ),
      omega (arith, invariant.5, c.push_reserved.ensures.capacity),
      omega (arith, invariant.6, c.push_range.ensures.capacity),
    )
