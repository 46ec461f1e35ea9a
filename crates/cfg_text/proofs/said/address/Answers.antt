use Rattle.std.proofs.Common.{ap, ◌∙◌}
use Rattle.std.specs.Result.{result_ok}
use Rattle.text_model.specs.Numbers.{prefixed_of}
use Rattle.block_model.specs.Line.{address_of}
use Rattle.cfg_text.proofs.SaidLemmas.{ok_within}
use Rattle.cfg_text.proofs.said.address.Goals as goal

pub returns : goal.returns
unfolding address_of
returns c = c.ok.ensures.value ∙ ap result_ok c.prefixed.ensures ∙ ok_within 64 (prefixed_of c.args.field.now)
