use Rattle.std.proofs.Common.{ap, ◌∙◌}
use Rattle.std.specs.Result.{result_ok}
use Rattle.text_model.specs.Numbers.{decimal_of}
use Rattle.block_model.specs.Line.{place_of}
use Rattle.cfg_text.proofs.SaidLemmas.{ok_within}
use Rattle.cfg_text.proofs.said.place_of.Goals as goal

pub returns : goal.returns
unfolding place_of
returns c = c.ok.ensures.value ∙ ap result_ok c.decimal.ensures ∙ ok_within 64 (decimal_of c.args.field.now)
