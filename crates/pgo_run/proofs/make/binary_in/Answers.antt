use Rattle.refusal.specs.Place.{size_item}
use Rattle.binary_model.specs.Binary.{first_bad_of_binary, max_binary_bytes}
use Rattle.pgo_run.proofs.MakeLemmas.{wider-judged}
use Rattle.program_edge.proofs.SizedLemmas.{sized-binary}
use Rattle.pgo_run.proofs.make.binary_in.Goals as goal

pub returns-in_err-judge_size : goal.returns-in_err-judge_size
returns-in_err-judge_size c =
    wider-judged (size_item 1 max_binary_bytes c.args.file.now) (first_bad_of_binary c.args.file.now) _ _ c.in_err-judge_size.field-0.0 _
    (sized-binary.too_large c.args.file.now) c.in_err-judge_size.ensures c.from_residual.ensures.1
