use Rattle.std.proofs.Common.{◌≡◌, refl, sym, ◌∙◌}
use Rattle.binary_model.specs.Places.{place_of_address}
use Rattle.command_model.specs.Command.{where_ as where_command}
use Rattle.command_model.specs.Where.{where_text}
use Rattle.command_words.specs.Words.{told_options}
use Rattle.program_edge.proofs.ReachedLemmas.{any-store}
use Rattle.program_edge.proofs.SizedLemmas.{sized-binary}
use Rattle.program_edge.proofs.WalkLemmas.{all, bad, good, start, unread}
use Rattle.pgo_run.proofs.where_.output.Goals as goal

pub returns-in_err-file-clause-carried : goal.returns-in_err-file-clause-carried
returns-in_err-file-clause-carried g c =
    unread (start (where_command (told_options c.args.options) c.args.binary.now c.args.address)) c.in_err-file.ensures.read sized-binary refl c.from_residual.ensures.1

pub returns-in_err-line-clause-carried : goal.returns-in_err-line-clause-carried
returns-in_err-line-clause-carried g c =
    bad c.line_of.result (λ out. out.items ≡ where_text (place_of_address c.deref.result.now c.args.options.base c.args.address)) (start (where_command (told_options c.args.options) c.args.binary.now c.args.address)) c.in_ok-file.ensures.read c.in_ok-file.ensures.within c.deref.ensures.value sized-binary
    c.line_of.ensures (sym c.in_file.ensures ∙ c.in_err-line.was) refl c.from_residual-in_err-line.ensures.1

pub returns-clause-carried : goal.returns-clause-carried
returns-clause-carried g c =
    let line = good c.line_of.result (λ out. out.items ≡ where_text (place_of_address c.deref.result.now c.args.options.base c.args.address)) (start (where_command (told_options c.args.options) c.args.binary.now c.args.address)) c.in_ok-file.ensures.read c.in_ok-file.ensures.within c.read_file.ensures.store
    c.deref.ensures.value sized-binary c.line_of.ensures (sym c.in_file.ensures ∙ c.in_ok-line.was) in
    all line.0 refl (any-store _ line.1)
