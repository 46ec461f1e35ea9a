-- Each answer is what the bytes that were read spell.
use Rattle.std.proofs.Common.{arith, sym}
use Rattle.text_model.specs.Numbers.{decimal_of}
use Rattle.text_model.proofs.NumberLemmas.{number_of-empty, number_of-bad}
use Rattle.text_scan.proofs.ReadLemmas.{none_told}
use Rattle.text_scan.proofs.DecimalLemmas.{no_number, read_more, read_fitting, read_large}
use Rattle.text_scan.proofs.decimals.decimal.Goals as goal

pub returns-then-is_empty : goal.returns-then-is_empty
returns-then-is_empty c =
    no_number 64 (decimal_of c.args.text.now) (number_of-empty 10 c.args.text.now (sym c.if-is_empty.ensures))

pub returns-in_default : goal.returns-in_default
returns-in_default c =
    no_number 64 (decimal_of c.args.text.now)
    (number_of-bad 10 c.args.text.now c.loop-byte.byte-index (omega arith) (none_told _ _ c.in_default.ensures))

pub loop-byte-preserved : goal.loop-byte-preserved
loop-byte-preserved c =
    read_more 64 c.args.text.now c.loop-byte.byte-index c.in-Some.digit c.loop-byte.value c.with_digit-value.result
    (omega arith) c.in-Some.ensures c.with_digit-value.ensures c.loop-byte.invariant

pub returns-in-Some-value : goal.returns-in-Some-value
returns-in-Some-value c =
    read_fitting 64 c.args.text.now c.loop-byte.byte-index c.in-Some-value.value c.if-is_empty.ensures
    c.loop-byte-test.false (rw c.in-Some-value.is at c.loop-byte.invariant)

pub returns-in-None : goal.returns-in-None
returns-in-None c =
    read_large 64 c.args.text.now c.loop-byte.byte-index c.if-is_empty.ensures
    c.loop-byte-test.false (rw c.in-None.is at c.loop-byte.invariant)
