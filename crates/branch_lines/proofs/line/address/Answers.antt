use Rattle.std.proofs.Common.{ap, ◌∙◌}
use Rattle.std.specs.Result.{result_ok}
use Rattle.text_model.specs.Numbers.{prefixed_of}
use Rattle.sample_model.specs.Line.{address_of}
use Rattle.branch_lines.proofs.LineLemmas.{result_ok-within}
use Rattle.branch_lines.proofs.line.address.Goals as goal

pub returns : goal.returns
unfolding address_of
returns c = c.ok.ensures.value ∙ ap result_ok c.prefixed.ensures ∙ result_ok-within (prefixed_of c.args.text.now)
