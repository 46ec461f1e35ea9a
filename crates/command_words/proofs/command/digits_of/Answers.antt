use Rattle.std.proofs.Common.{false, refl, true}
use Rattle.text_model.proofs.NumberLemmas.{has_prefix_is}
use Rattle.command_words.proofs.command.digits_of.Goals as goal

pub returns-in-Some : goal.returns-in-Some
returns-in-Some c = let parts = c.in-Some.ensures.cases in rw (has_prefix_is c.args.word.now true parts.0) parts.1

pub returns-in-None : goal.returns-in-None
returns-in-None c = rw (has_prefix_is c.args.word.now false c.in-None.ensures.cases) refl
