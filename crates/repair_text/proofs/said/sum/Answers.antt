use Rattle.std.proofs.Common.{ap, ◌∙◌}
use Rattle.std.specs.Result.{result_ok}
use Rattle.text_model.specs.Numbers.{decimal_of}
use Rattle.repair_model.specs.Line.{sum_of}
use Rattle.cfg_text.proofs.SaidLemmas.{ok_within}
use Rattle.repair_text.proofs.said.sum.Goals as goal

pub returns : goal.returns
unfolding sum_of
returns c = c.ok.ensures.value ∙ ap result_ok c.wide.ensures ∙ ok_within 128 (decimal_of c.args.field.now)
