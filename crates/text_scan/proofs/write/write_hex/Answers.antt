-- Each turn writes one digit more, and the prefix comes before the last one written.
use Rattle.std.proofs.Common.{◌≡◌, ◌≤◌, [], drop, arith, rules}
use Rattle.text_model.proofs.DigitLemmas.{hex_onto}
use Rattle.text_scan.proofs.WriteLemmas.{hex_onto-written, hex_onto-whole, hex_onto-full, hex_text-written}
use Rattle.text_scan.proofs.write.write_hex.Goals as goal
use Rattle.text_scan.proofs.write.write_hex.Goals.{else-loop-start-test, then-loop-start-test+then-left-eq0}

pub loop-start-preserved : goal.loop-start-preserved
loop-start-preserved c =
    record {
      low = omega arith;
      high = omega arith;
      length = search rules;
      written = hex_onto-written c.loop-start.text _ c.loop-start.start c.loop-start.left c.hex_glyph.result
          (omega arith) (omega arith) c.hex_glyph.ensures c.if-left-eq0.false c.loop-start.invariant.written;
    }

pub returns-clause-written : goal.returns-clause-written
returns-clause-written c =
    let at = c.loop-start in
    let low : 2 ≤ c.loop-start-test.start =
    elim c.loop-start-test.branch [
      | else-loop-start-test w ↦ omega arith
      | then-loop-start-test+then-left-eq0 w ↦ omega arith
    ] in
    let high : c.loop-start-test.start ≤ 18 =
    elim c.loop-start-test.branch [
      | else-loop-start-test w ↦ omega arith
      | then-loop-start-test+then-left-eq0 w ↦ omega arith
    ] in
    let digits : drop c.loop-start-test.start c.loop-start-test.text ≡ hex_onto 16 c.args.n [] =
    elim c.loop-start-test.branch [
      | else-loop-start-test w ↦ rw (w.text-is, w.start-is)
          (hex_onto-full at.text _ at.start at.left w.loop-start-test.false at.invariant.written)
      | then-loop-start-test+then-left-eq0 w ↦ rw (w.text-is, w.start-is)
          (hex_onto-whole at.text _ at.start at.left w.hex_glyph.result
          w.loop-start-test.true (omega arith) w.hex_glyph.ensures w.if-left-eq0.true at.invariant.written)
    ] in
    hex_text-written c.loop-start-test.text c.loop-start-test.start c.args.n (omega arith) low (omega arith) digits
