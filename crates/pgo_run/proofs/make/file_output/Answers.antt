use Rattle.command_model.specs.Command.{make as make_command}
use Rattle.command_words.specs.Words.{told_part}
use Rattle.pgo_run.proofs.MakeLemmas.{made-file, made-lacks}
use Rattle.pgo_run.proofs.make.file_output.Goals as goal

pub returns-in_err-file : goal.returns-in_err-file
returns-in_err-file c = λ store opens faults. made-lacks (make_command (told_part c.args.part) c.args.functions) store _ opens faults c.from_residual.ensures.1

pub returns : goal.returns
returns c = λ store opens faults. made-file (told_part c.args.part) c.args.functions store c.in_ok-file.file opens faults c.in_ok-file.ensures
