use Rattle.text_model.specs.Numbers.{decimal_of}
use Rattle.command_model.specs.Command.{functions_of}
use Rattle.command_words.proofs.CommandLemmas.{few_functions, many_functions, no_functions}
use Rattle.command_words.proofs.command.functions_of.Goals as goal

pub returns-in-Ok : goal.returns-in-Ok
unfolding functions_of
returns-in-Ok c = few_functions (decimal_of c.args.word.now) c.in-Ok.functions c.in-Ok.ensures c.if-functions-le-MAX_FUNCTIONS.true

pub returns-in-Ok-2 : goal.returns-in-Ok-2
unfolding functions_of
returns-in-Ok-2 c = many_functions (decimal_of c.args.word.now) c.in-Ok.functions c.in-Ok.ensures c.if-functions-le-MAX_FUNCTIONS.false

pub returns-in-Err : goal.returns-in-Err
unfolding functions_of
returns-in-Err c = no_functions (decimal_of c.args.word.now) _ c.in-Err.ensures
