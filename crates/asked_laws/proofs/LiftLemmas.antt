-- What is lifted asks for the places in blocks alone.
use Rattle.std.proofs.Common.{◌≡◌, ◌-◌, ℕ, List, [], ◌∷◌, ◌++◌, map, refl, ap, arith}
use Rattle.std.specs.List.{AllByRecursion, flat_map, zip}
use Rattle.block_model.specs.declared.parts.Block.{Block}
use Rattle.block_model.specs.Function.{Function}
use Rattle.repair_model.specs.Repair.{Solution, flow, cut}
use Rattle.output_model.specs.Lift.{counted_blocks, held_by, ways_in}
use Rattle.output_model.specs.Program.{Program, way_at, way_of_place}
use Rattle.asked_laws.specs.Alike.{AreAlikeIn}
use Rattle.asked_laws.specs.Laws.{LiftsAskNoMore}
use Rattle.asked_laws.proofs.ListLemmas.{found_in_range}

module _ (program other : Program) where
  block_alike : (block : Block) (count : ℕ) → AreAlikeIn program other block → ways_in (way_at program) (block, count) ≡ ways_in (way_at other) (block, count)
  block_alike block count same =
      ap (map (λ it. (it, count)))
      (found_in_range (way_at program) (way_at other) block.lo (block.hi - block.lo) (λ a low high. ap way_of_place (same a low (omega (arith, low, high)))))

  blocks_alike : (blocks : List Block) (counts : List ℕ) → AllByRecursion (AreAlikeIn program other) blocks
      → flat_map (ways_in (way_at program)) (zip blocks counts) ≡ flat_map (ways_in (way_at other)) (zip blocks counts)
  blocks_alike [] counts same = refl
  blocks_alike (block ∷ blocks) [] same = refl
  blocks_alike (block ∷ blocks) (count ∷ counts) same = λ i. block_alike block count same.0 i ++ blocks_alike blocks counts same.1 i

  solution_alike : (fun : Function) (solution : Solution) → AllByRecursion (AreAlikeIn program other) fun.blocks
      → flat_map (ways_in (way_at program)) (counted_blocks fun solution) ≡ flat_map (ways_in (way_at other)) (counted_blocks fun solution)
  solution_alike fun (flow counts ins outs) same = blocks_alike fun.blocks counts.blocks same
  solution_alike fun (cut root ins outs) same = refl

pub lifts_ask_no_more : LiftsAskNoMore
unfolding held_by
lifts_ask_no_more program other [] same = refl
lifts_ask_no_more program other (it ∷ repaired) same =
    λ i. solution_alike program other it.0 it.1.solution same.0 i ++ lifts_ask_no_more program other repaired same.1 i
