-- What ways cost, and so how far away sides can be.
use Rattle.std.proofs.Common.{◌≡◌, ℕ, zero, suc, ◌*◌, ◌^◌, ◌<◌, true, List, length, Option, None, Some, inl, inr, refl, arith, ap, sym, ◌∙◌}
use Rattle.std.specs.Prelude.{ℤ, pos, ◌+ℤ◌, ◌≤ℤ◌}
use Rattle.std.proofs.lemmas.Bool.{cases_eq, cases_lt}
use Rattle.std.proofs.lemmas.Int.{ints}
use Rattle.std.proofs.lemmas.List.{get_or_past}
use Rattle.flow_model.specs.declared.arc.Arc.{Arc}
use Rattle.flow_model.specs.Network.{Network, arcs_of, block_arcs}
use Rattle.flow_model.specs.Sound.{IsNet}
use Rattle.flow_model.proofs.NetLemmas.{length-block_arcs}
use Rattle.flow_network.specs.Cost.{IsCheap}
use Rattle.residual_model.specs.Residual.{cost_of_more, cost_of_less}
use Rattle.residual_model.proofs.PushLemmas.{more_above, more_below, less_above, less_below}
use Rattle.reached_sides.specs.declared.mark.Mark.{Mark}
use Rattle.reached_sides.specs.declared.mark.Way.{Way}
use Rattle.reached_sides.specs.declared.mark.Way.TheVariants.{Along, Against}
use Rattle.path_search.specs.Ground.{AreSmall, IsSmallCost, IsSmallPrice, IsGround, arc_at, count_at, price_at, sides_of}
use Rattle.path_search.specs.Task.{Task}
use Rattle.path_search.specs.Search.{mark_at, distance_of, distance_at, is_settled, settled_count}
use Rattle.path_search.specs.Ways.{start_of, IsOpen, cost_of_step, rank_of, height_at, AreWays}
use Rattle.path_search.proofs.RowLemmas.{placed}
use Rattle.path_search.proofs.SearchLemmas.{few_settled}

pub few_sides : (net : Network) → IsNet net → sides_of net < 2 ^ 18
few_sides net is =
    let long = length-block_arcs 0 is.blocks is.weights is.block_weighed.each in
    let same : length net.blocks ≡ length (block_arcs 0 is.blocks is.weights) = ap (λ (n : Network). length n.blocks) is.same in
    omega (arith, long, same, is.sound.few_blocks)

pub small_at : (prices : List ℤ) → AreSmall prices → (side : ℕ) → IsSmallPrice (price_at prices side)
small_at prices small side =
    elim (cases_lt side (length prices)) [
      | inl within ↦ small side (pos 0) within
      | inr past ↦
          let zero = get_or_past prices side (pos 0) past in
          record { least = omega (arith, ints, zero); most = omega (arith, ints, zero) }
    ]

-- ---- one step

pub more_is_small : (arc : Arc) (n : ℕ) → IsCheap arc → IsSmallCost (cost_of_more arc n)
more_is_small arc n cheap =
    elim (cases_lt n arc.weight) [
      | inl before ↦
          let cost = more_below arc n before in
          record { least = omega (arith, ints, cost, cheap.cheap_down); most = omega (arith, ints, cost, cheap.cheap_down) }
      | inr past ↦
          let cost = more_above arc n past in
          record { least = omega (arith, ints, cost, cheap.cheap_up); most = omega (arith, ints, cost, cheap.cheap_up) }
    ]

pub less_is_small : (arc : Arc) (n : ℕ) → 0 < n → IsCheap arc → IsSmallCost (cost_of_less arc n)
less_is_small arc n some cheap =
    elim (cases_lt arc.weight n) [
      | inl past ↦
          let cost = less_above arc n past in
          record { least = omega (arith, ints, cost, cheap.cheap_up); most = omega (arith, ints, cost, cheap.cheap_up) }
      | inr within ↦
          let cost = less_below arc n some within in
          record { least = omega (arith, ints, cost, cheap.cheap_down); most = omega (arith, ints, cost, cheap.cheap_down) }
    ]

step_is_small : (way : Way) (arc : Arc) (n : ℕ) → IsCheap arc → IsOpen way arc n → IsSmallCost (cost_of_step way arc n)
step_is_small Along arc n cheap leaves = more_is_small arc n cheap
step_is_small Against arc n cheap leaves = less_is_small arc n (omega (arith, leaves)) cheap

-- ---- a whole way

-- the height of a side is within this much of a level: what a way there costs
pub record IsWayCost (level : ℤ) (prices : List ℤ) (side distance most : ℕ) : Type 0 where
  pub above : (pos distance +ℤ price_at prices side) ≤ℤ (level +ℤ pos most)
  pub below : level ≤ℤ (pos distance +ℤ price_at prices side +ℤ pos most)

pub settled_mark : (at : Option Mark) → is_settled at ≡ true → (mark : Mark) × (at ≡ Some mark)
settled_mark None settled = absurd (cc)
settled_mark (Some mark) settled = (mark, refl)

-- a settled side is at most as many steps from the source as sides were settled before it
settled_cost : (task : Task) (marks : List (Option Mark)) → IsGround task.net task.counts task.prices
    → AreWays task marks → (n side : ℕ) → is_settled (mark_at marks side) ≡ true → rank_of (mark_at marks side) < n
    → IsWayCost (height_at task.prices marks task.source) task.prices side (distance_at marks side) (40 * rank_of (mark_at marks side))
settled_cost task marks ground ways zero side settled below = absurd (omega (arith, below))
settled_cost task marks ground ways (suc n) side settled below =
    elim (cases_eq side task.source) [
      | inl e ↦
          let d = ap (distance_at marks) e in
          let price = ap (price_at task.prices) e in
          record { above = omega (arith, ints, d, price); below = omega (arith, ints, d, price) }
      | inr apart ↦
          let found = settled_mark (mark_at marks side) settled in
          let mark = found.0 in
          let step = ways.steps side mark found.1 apart in
          let arc = arc_at (arcs_of task.net) mark.arc in
          let start = start_of mark.way arc in
          let before = step.from_earlier (sym (ap is_settled found.1) ∙ settled) in
          let rank = ap rank_of found.1 in
          let d = ap distance_of found.1 in
          let cost = settled_cost task marks ground ways n start step.from_settled (omega (arith, before, rank, below)) in
          let cheap = (placed task.net task.counts task.prices ground.of_a_function ground mark.arc step.inside).cheap in
          let small = step_is_small mark.way arc (count_at task.counts mark.arc) cheap step.leaves in
          let further = step.further in
          record {
            above = omega (arith, ints, cost.above, further, small.least, small.most, before, rank, d);
            below = omega (arith, ints, cost.below, further, small.least, small.most, before, rank, d);
          }
    ]

-- and each marked one at most as many as sides are settled
pub way_cost : (task : Task) (marks : List (Option Mark)) → IsGround task.net task.counts task.prices
    → AreWays task marks → (side : ℕ) (mark : Mark) → mark_at marks side ≡ Some mark
    → IsWayCost (height_at task.prices marks task.source) task.prices side mark.distance (40 * settled_count marks)
way_cost task marks ground ways side mark at =
    let d = ap distance_of at in
    elim (cases_eq side task.source) [
      | inl e ↦
          let same = ap (distance_at marks) e in
          let price = ap (price_at task.prices) e in
          record { above = omega (arith, ints, d, same, price); below = omega (arith, ints, d, same, price) }
      | inr apart ↦
          let step = ways.steps side mark at apart in
          let arc = arc_at (arcs_of task.net) mark.arc in
          let start = start_of mark.way arc in
          let rank = ways.ranked start step.from_settled in
          let cost = settled_cost task marks ground ways (settled_count marks) start step.from_settled rank in
          let cheap = (placed task.net task.counts task.prices ground.of_a_function ground mark.arc step.inside).cheap in
          let small = step_is_small mark.way arc (count_at task.counts mark.arc) cheap step.leaves in
          let further = step.further in
          record {
            above = omega (arith, ints, cost.above, further, small.least, small.most, rank);
            below = omega (arith, ints, cost.below, further, small.least, small.most, rank);
          }
    ]

pub way_near : (task : Task) (marks : List (Option Mark)) → IsGround task.net task.counts task.prices
    → AreWays task marks → length marks ≡ length task.prices → (side : ℕ) (mark : Mark) → mark_at marks side ≡ Some mark
    → mark.distance < 2 ^ 33
way_near task marks ground ways each side mark at =
    let cost = way_cost task marks ground ways side mark at in
    let few = few_sides task.net ground.of_a_function in
    let priced = ground.priced in
    let count = few_settled marks in
    let here = small_at task.prices ground.small side in
    let height = ways.small in
    omega (arith, ints, cost.above, few, priced, count, each, here.least, height.most)
