use Rattle.refusal.specs.Place.{size_item}
use Rattle.command_model.specs.Files.{first_bad_of_blocks, max_block_bytes}
use Rattle.pgo_run.proofs.MakeLemmas.{wider-judged}
use Rattle.program_edge.proofs.SizedLemmas.{judged-sized, sized-blocks}
use Rattle.pgo_run.proofs.make.functions_in.Goals as goal

pub returns-in_err-judge_size : goal.returns-in_err-judge_size
returns-in_err-judge_size c =
    wider-judged (size_item 3 max_block_bytes c.args.text.now) (first_bad_of_blocks 3 c.args.text.now) _ _ c.in_err-judge_size.field-0.0 _
    ((sized-blocks 3).too_large c.args.text.now) c.in_err-judge_size.ensures c.from_residual.ensures.1

pub returns : goal.returns
returns c = judged-sized c.read.result _ (sized-blocks 3) c.args.text.now c.in_ok-judge_size.ensures.1 c.read.ensures
