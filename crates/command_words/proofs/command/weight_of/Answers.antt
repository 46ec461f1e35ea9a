use Rattle.text_model.specs.Numbers.{decimal_of}
use Rattle.command_model.specs.Command.{weight_of}
use Rattle.command_words.proofs.PartLemmas.{no_weight, weight_fits, weight_over}
use Rattle.command_words.proofs.command.weight_of.Goals as goal

pub returns-in-Ok : goal.returns-in-Ok
unfolding weight_of
returns-in-Ok c = weight_fits (decimal_of c.args.word.now) c.in-Ok.weight c.new.result c.in-Ok.ensures c.if-weight-le-MAX_WEIGHT.true c.new.ensures

pub returns-in-Ok-2 : goal.returns-in-Ok-2
unfolding weight_of
returns-in-Ok-2 c = weight_over (decimal_of c.args.word.now) c.in-Ok.weight c.in-Ok.ensures c.if-weight-le-MAX_WEIGHT.false

pub returns-in-Err : goal.returns-in-Err
unfolding weight_of
returns-in-Err c = no_weight (decimal_of c.args.word.now) _ c.in-Err.ensures
