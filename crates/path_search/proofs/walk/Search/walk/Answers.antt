use Rattle.std.proofs.Common.{rules, arith, ap}
use Rattle.std.proofs.lemmas.Int.{ints}
use Rattle.path_search.specs.Search.{settled_count}
use Rattle.path_search.proofs.SearchLemmas.{few_settled}
use Rattle.path_search.proofs.walk.Search.walk.Goals as goal

pub returns-in-Some-clause-nearer : goal.returns-in-Some-clause-nearer
returns-in-Some-clause-nearer c = rw c.in-Some.ensures.marks (λ other.
    let nearer = c.in_ok-pass.ensures.nearer other in
    let before = c.loop-self.invariant.nearer other in omega (arith, nearer, before))

pub loop-self-smaller : goal.loop-self-smaller
loop-self-smaller c =
    let count = few_settled c.pass.new.self.marks in
    let same = ap settled_count c.in-Some.ensures.marks in
    omega (arith, count, same, c.in_ok-pass.ensures.more, c.in_ok-pass.ensures.under_way.settled.each)

pub loop-self-preserved : goal.loop-self-preserved
loop-self-preserved c = record {
  come = c.in-Some.ensures.come;
  enough = search (rules, ints, c.if-ground-side-lt0.false);
  nearer = rw c.in-Some.ensures.marks (λ other.
      let nearer = c.in_ok-pass.ensures.nearer other in
      let before = c.loop-self.invariant.nearer other in omega (arith, nearer, before));
}
