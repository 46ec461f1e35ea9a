use Rattle.std.proofs.Common.{arith}
use Rattle.profile_merge.proofs.ItemLemmas.{fits_at, keep_places, raised_at}
use Rattle.profile_merge.proofs.sums.Sums.raise_all.Goals as goal

pub overflow_mul-sum : goal.overflow_mul-sum
overflow_mul-sum c =
    let fits = fits_at c.args.items.now c.loop-item.item-index _ (omega arith) c.args.weight c.sum.result c.args.self.now c.loop-item.self c.sum.ensures c.requires.fit c.requires.once c.loop-item.invariant.added in
    omega arith

pub overflow_add-sum : goal.overflow_add-sum
overflow_add-sum c =
    let fits = fits_at c.args.items.now c.loop-item.item-index _ (omega arith) c.args.weight c.sum.result c.args.self.now c.loop-item.self c.sum.ensures c.requires.fit c.requires.once c.loop-item.invariant.added in
    omega arith

pub loop-item-preserved : goal.loop-item-preserved
loop-item-preserved c = record {
  places = keep_places c.args.items.now c.loop-item.self c.set.new.self c.set.ensures.kept c.loop-item.invariant.places;
  added = raised_at c.args.items.now c.loop-item.item-index _ (omega arith) c.args.weight c.args.self.now c.loop-item.self c.set.new.self c.loop-item.invariant.added (rw c.sum.ensures at c.set.ensures.sum);
  given = λ names keys are given. c.set.ensures.given names keys (c.loop-item.invariant.given names keys are given) tt;
}
