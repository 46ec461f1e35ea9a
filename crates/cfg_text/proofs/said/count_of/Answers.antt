use Rattle.text_model.specs.Numbers.{decimal_of}
use Rattle.block_model.specs.Line.{count_of}
use Rattle.cfg_text.proofs.SaidLemmas.{fits_fewer, passes_fewer, no_number}
use Rattle.cfg_text.proofs.said.count_of.Goals as goal

pub returns-in-Ok : goal.returns-in-Ok
unfolding count_of
returns-in-Ok c = fits_fewer (decimal_of c.args.digits.now) c.in-Ok.count c.in-Ok.ensures c.if-count-lt-BOUND_LIMIT.true

pub returns-in-Ok-2 : goal.returns-in-Ok-2
unfolding count_of
returns-in-Ok-2 c = passes_fewer (decimal_of c.args.digits.now) c.in-Ok.count c.in-Ok.ensures c.if-count-lt-BOUND_LIMIT.false

pub returns-in-Err : goal.returns-in-Err
unfolding count_of
returns-in-Err c = no_number (decimal_of c.args.digits.now) _ c.in-Err.ensures
