-- Each answer is what the bytes that were read spell.
use Rattle.std.proofs.Common.{arith, sym}
use Rattle.text_scan.proofs.ReadLemmas.{read_more, read_fitting, read_large, within_none, none_told}
use Rattle.text_model.proofs.NumberLemmas.{number_of-empty, number_of-bad}
use Rattle.text_scan.proofs.read.hex.Goals as goal

pub returns-then-is_empty : goal.returns-then-is_empty
returns-then-is_empty c = within_none _ (number_of-empty 16 c.args.text.now (sym c.if-is_empty.ensures))

pub returns-in_default : goal.returns-in_default
returns-in_default c =
    within_none _ (number_of-bad 16 c.args.text.now c.loop-byte.byte-index (omega arith) (none_told _ _ c.in_default.ensures))

pub loop-byte-preserved : goal.loop-byte-preserved
loop-byte-preserved c =
    read_more c.args.text.now c.loop-byte.byte-index c.loop-byte.value c.in-Some.digit c.loop-byte.fits (omega arith) (omega arith) c.in-Some.ensures c.loop-byte.invariant

pub returns-then-fits : goal.returns-then-fits
returns-then-fits c =
    read_fitting c.args.text.now c.loop-byte.byte-index c.loop-byte.value c.loop-byte.fits c.if-is_empty.ensures
    c.loop-byte-test.false c.loop-byte.invariant c.if-fits.true (omega arith)

pub returns-else-fits : goal.returns-else-fits
returns-else-fits c =
    read_large c.args.text.now c.loop-byte.byte-index c.loop-byte.value c.loop-byte.fits c.if-is_empty.ensures
    c.loop-byte-test.false c.loop-byte.invariant c.if-fits.false
