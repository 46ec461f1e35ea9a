use Rattle.std.proofs.Common.{◌≡◌, refl, sym, ◌∙◌}
use Rattle.profile_model.specs.Spelled.{spelled}
use Rattle.profile_model.specs.Summary.{summary_text}
use Rattle.command_model.specs.Command.{summary as summary_command}
use Rattle.program_edge.proofs.ReachedLemmas.{any-store}
use Rattle.program_edge.proofs.SizedLemmas.{sized-profile}
use Rattle.program_edge.proofs.WalkLemmas.{all, bad, good, start, unread}
use Rattle.pgo_run.proofs.summary.output.Goals as goal

pub returns-in_err-text-clause-carried : goal.returns-in_err-text-clause-carried
returns-in_err-text-clause-carried g c = unread (start (summary_command c.args.file.now)) c.in_err-text.ensures.read (sized-profile 1) refl c.from_residual.ensures.1

pub returns-in_err-lines-clause-carried : goal.returns-in_err-lines-clause-carried
returns-in_err-lines-clause-carried g c =
    bad c.summarize.result (λ out. out.items ≡ summary_text (spelled c.deref.result.now)) (start (summary_command c.args.file.now)) c.in_ok-text.ensures.read c.in_ok-text.ensures.within c.deref.ensures.value (sized-profile 1)
    c.summarize.ensures (sym c.in_file.ensures ∙ c.in_err-lines.was) refl c.from_residual-in_err-lines.ensures.1

pub returns-clause-carried : goal.returns-clause-carried
returns-clause-carried g c =
    let text = good c.summarize.result (λ out. out.items ≡ summary_text (spelled c.deref.result.now)) (start (summary_command c.args.file.now)) c.in_ok-text.ensures.read c.in_ok-text.ensures.within c.read_file.ensures.store c.deref.ensures.value (sized-profile 1)
    c.summarize.ensures (sym c.in_file.ensures ∙ c.in_ok-lines.was) in
    all text.0 refl (any-store _ text.1)
