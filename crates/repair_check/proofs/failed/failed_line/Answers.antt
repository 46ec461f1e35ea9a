use Rattle.std.proofs.Common.{◌≡◌, ◌<◌, ◌≤◌, arith, ◌∙◌, sym, ap, length, map}
use Rattle.std.proofs.lemmas.List.{length-map, take_all}
use Rattle.cfg_text.specs.Fun.{function_of}
use Rattle.repair_text.specs.Repair.{numbered}
use Rattle.repair_check.proofs.FailLemmas.{as_many, told_at_index, fails_at_index, passes_at_index}
use Rattle.repair_check.proofs.failed.failed_line.Goals as goal

pub bounds-repairs-at : goal.bounds-repairs-at
bounds-repairs-at c =
    let same = as_many (map function_of c.args.funs.now) (map numbered c.args.repairs.now) c.requires.told in
    let within = c.loop-at-test.true in
    omega (arith, within, same, length-map c.args.funs.now function_of, length-map c.args.repairs.now numbered)

pub offset_bounds-repairs-at : goal.offset_bounds-repairs-at
offset_bounds-repairs-at c = let within = bounds-repairs-at c in omega (arith, within)

pub failed_in-requires-clause-told : goal.failed_in-requires-clause-told
failed_in-requires-clause-told c =
    rw (← c.index-funs-at.is, ← c.index-repairs-at.is)
    at (told_at_index c.loop-at.at c.args.funs.now c.args.repairs.now c.index-funs-at.result c.index-repairs-at.result c.loop-at-test.true c.requires.told)

pub returns-then-is_some : goal.returns-then-is_some
returns-then-is_some c =
    let here = rw (c.index-funs-at.is, c.index-repairs-at.is) at c.in_ok-failed.ensures in
    fails_at_index c.loop-at.at c.args.funs.now c.args.repairs.now c.index-funs-at.result c.index-repairs-at.result c.in_ok-failed.failed
    c.loop-at-test.true c.requires.told c.loop-at.invariant here (sym c.is_some.ensures ∙ c.if-is_some.true)

pub loop-at-preserved : goal.loop-at-preserved
loop-at-preserved c =
    let here = rw (c.index-funs-at.is, c.index-repairs-at.is) at c.in_ok-failed.ensures in
    passes_at_index c.loop-at.at c.args.funs.now c.args.repairs.now c.index-funs-at.result c.index-repairs-at.result c.in_ok-failed.failed
    c.loop-at-test.true c.requires.told c.loop-at.invariant here (sym c.is_some.ensures ∙ c.if-is_some.false)

pub returns : goal.returns
returns c =
    let funs = map function_of c.args.funs.now in
    let repairs = map numbered c.args.repairs.now in
    let past = c.loop-at-test.false in
    let same = as_many funs repairs c.requires.told in
    let all : length funs ≤ c.loop-at.at = omega (arith, past, length-map c.args.funs.now function_of) in
    rw (take_all c.loop-at.at funs all, take_all c.loop-at.at repairs (omega (arith, all, same))) at (sym c.loop-at.invariant)
