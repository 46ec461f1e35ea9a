use Rattle.std.proofs.Common.{map, subst, sym}
use Rattle.block_weights.specs.Counts.{count_in}
use Rattle.cfg_text.specs.Fun.{function_of}
use Rattle.key_types.specs.Segments.{key_told}
use Rattle.output_model.specs.Scaled.{AreAllAugmentations}
use Rattle.repair_maker.specs.Told.{edges_told}
use Rattle.repair_maker.proofs.AugmentationLemmas.{CountedSoFar-end, CountedSoFar-more, CountedSoFar-room}
use Rattle.repair_maker.proofs.RepairLemmas.{WrittenSoFar-more}
use Rattle.repair_maker.proofs.maker.write_all.Goals as goal

pub write_one-requires-clause-room : goal.write_one-requires-clause-room
write_one-requires-clause-room c =
    CountedSoFar-room (key_told c.args.counted.now.segments) (count_in c.args.counted.now.counts) (edges_told c.args.edges) c.args.funs.now c.loop-fun.fun-index c.loop-fun.solver c.loop-fun.invariant.1 c.loop-fun-test.true c.requires.few

pub loop-fun-preserved : goal.loop-fun-preserved
loop-fun-preserved c =
    let key = key_told c.args.counted.now.segments in
    let count = count_in c.args.counted.now.counts in
    let edges = edges_told c.args.edges in
    let augmented = c.in_ok-write_one.ensures.counted in (
      WrittenSoFar-more key count edges c.args.funs.now c.loop-fun.fun-index c.args.out.now.items c.loop-fun.out.items c.write_one.new.out.items
          c.in_ok-write_one.ensures.written.0 c.fun-item.result c.loop-fun.invariant.0 c.loop-fun-test.true c.fun-item.is c.in_ok-write_one.ensures.written.1 c.in_ok-write_one.ensures.written.2,
      CountedSoFar-more key count edges c.args.funs.now c.loop-fun.fun-index c.loop-fun.solver c.write_one.new.solver augmented.0 c.fun-item.result
          c.loop-fun.invariant.1 c.loop-fun-test.true c.fun-item.is augmented.1 augmented.2 c.in_ok-write_one.ensures.few,
    )

pub returns-clause-counted : goal.returns-clause-counted
returns-clause-counted c =
    subst (AreAllAugmentations (key_told c.args.counted.now.segments) (count_in c.args.counted.now.counts) (edges_told c.args.edges) (map function_of c.args.funs.now)) (sym c.augmentations.ensures)
    (CountedSoFar-end (key_told c.args.counted.now.segments) (count_in c.args.counted.now.counts) (edges_told c.args.edges) c.args.funs.now c.loop-fun.fun-index c.loop-fun.solver c.loop-fun.invariant.1 c.loop-fun-test.false)
