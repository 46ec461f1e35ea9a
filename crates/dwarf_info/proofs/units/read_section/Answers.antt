use Rattle.std.proofs.Common.{◌<◌, ◌≡◌, ◌∙◌, length, drop, arith}
use Rattle.std.proofs.lemmas.List.{length-take}
use Rattle.dwarf_info.proofs.UnitLemmas.{UnitsSoFar-none, UnitsSoFar-more, UnitsSoFar-end, UnitsSoFar-kept, UnitsSoFar-stop}
use Rattle.dwarf_info.proofs.units.read_section.Goals as goal

pub loop-cur-init : goal.loop-cur-init
loop-cur-init c = (
  c.new-tables.ensures,
  UnitsSoFar-none _ c.args.part c.new-so_far.result c.new-cur.result c.new-so_far.ensures.whole c.new-so_far.ensures.none c.new-so_far.ensures.few c.new-cur.ensures.at c.new-cur.ensures.left,
)

pub read_next-requires : goal.read_next-requires
read_next-requires c = record {
  whole = c.loop-cur.invariant.1.whole;
  few = omega (arith, c.loop-cur.invariant.1.few, c.requires, length-take c.args.part.len (drop c.args.part.at c.args.part.file.now));
}

pub loop-cur-preserved : goal.loop-cur-preserved
loop-cur-preserved c =
    let some : 0 < length c.loop-cur.cur.left = omega (arith, c.loop-cur-test.true, c.left.ensures) in (
      c.in_ok-read_next.ensures.same ∙ c.loop-cur.invariant.0,
      UnitsSoFar-more _ _ _ _ _ _ _ c.loop-cur.invariant.0 c.loop-cur.invariant.1 some c.in_ok-read_next.ensures.read c.in_ok-read_next.ensures.shorter,
    )

pub returns-in_err-read_next : goal.returns-in_err-read_next
returns-in_err-read_next c =
    let some : 0 < length c.loop-cur.cur.left = omega (arith, c.loop-cur-test.true, c.left.ensures) in
    UnitsSoFar-stop _ _ _ _ _ _ _ _ c.from_residual.result c.loop-cur.invariant.0 c.loop-cur.invariant.1 some c.in_err-read_next.ensures.read c.from_residual.ensures.1

pub invariant_of-result : goal.invariant_of-result
invariant_of-result c = (
  c.loop-cur.invariant.1.whole,
  let none : length c.loop-cur.cur.left ≡ 0 = omega (arith, c.loop-cur-test.false, c.left.ensures) in
      UnitsSoFar-kept _ c.args.part c.loop-cur.so_far c.loop-cur.cur c.requires (omega (arith, c.args.part.inside)) c.loop-cur.invariant.1 none,
)

pub returns : goal.returns
returns c =
    let none : length c.loop-cur.cur.left ≡ 0 = omega (arith, c.loop-cur-test.false, c.left.ensures) in
    UnitsSoFar-end _ _ c.loop-cur.so_far c.loop-cur.cur c.loop-cur.invariant.1 none
