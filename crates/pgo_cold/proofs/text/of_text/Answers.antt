use Rattle.std.proofs.Common.{◌≡◌, refl, sym, ◌∙◌}
use Rattle.binary_model.specs.Binary.{first_bad_of_binary}
use Rattle.command_model.specs.Command.{cold as cold_command}
use Rattle.command_words.specs.Words.{told_options}
use Rattle.output_model.specs.Cold.{cold_output}
use Rattle.program_edge.proofs.ReachedLemmas.{any-store, judged-good}
use Rattle.program_edge.proofs.SizedLemmas.{sized-binary, sized-profile}
use Rattle.program_edge.proofs.WalkLemmas.{all, bad, good, start, unread}
use Rattle.pgo_cold.proofs.text.of_text.Goals as goal

pub returns-in_err-file-clause-carried : goal.returns-in_err-file-clause-carried
returns-in_err-file-clause-carried g c =
    let walk = start (cold_command (told_options c.args.options) c.args.binary.now c.args.profile.now) in
    unread walk c.in_err-file.ensures.read sized-binary refl c.from_residual.ensures.1

pub returns-in_err-binary-clause-carried : goal.returns-in_err-binary-clause-carried
returns-in_err-binary-clause-carried g c =
    let walk = start (cold_command (told_options c.args.options) c.args.binary.now c.args.profile.now) in
    bad c.read.result _ walk c.in_ok-file.ensures.read c.in_ok-file.ensures.within c.deref.ensures.value sized-binary c.read.ensures (sym c.in_file.ensures ∙ c.in_err-binary.was) refl
    c.from_residual-in_err-binary.ensures.1

pub returns-in_err-profile-clause-carried : goal.returns-in_err-profile-clause-carried
returns-in_err-profile-clause-carried g c =
    let walk = start (cold_command (told_options c.args.options) c.args.binary.now c.args.profile.now) in
    let first = good c.read.result _ walk c.in_ok-file.ensures.read c.in_ok-file.ensures.within c.read_file.ensures.store c.deref.ensures.value sized-binary c.read.ensures (sym c.in_file.ensures ∙ c.in_ok-binary.was) in
    unread first.0 c.in_err-profile.ensures.read (sized-profile 2) refl c.from_residual-in_err-profile.ensures.1

pub cold-requires-clause-binary : goal.cold-requires-clause-binary
cold-requires-clause-binary g c =
    let read = judged-good 1 (first_bad_of_binary c.deref.result.now) c.read.result _ c.in_ok-binary.binary c.read.ensures (sym c.in_file.ensures ∙ c.in_ok-binary.was) in
    (c.deref.result.now, c.args.options.base, read.1)

pub returns-in_err-text-clause-carried : goal.returns-in_err-text-clause-carried
returns-in_err-text-clause-carried g c =
    let walk = start (cold_command (told_options c.args.options) c.args.binary.now c.args.profile.now) in
    let first = good c.read.result _ walk c.in_ok-file.ensures.read c.in_ok-file.ensures.within c.read_file.ensures.store c.deref.ensures.value sized-binary c.read.ensures (sym c.in_file.ensures ∙ c.in_ok-binary.was) in
    bad c.cold.result (λ out. out.items ≡ cold_output c.args.options.base c.deref.result.now c.deref-2.result.now) first.0 c.in_ok-profile.ensures.read c.in_ok-profile.ensures.within c.deref-2.ensures.value (sized-profile 2)
    (c.cold.ensures c.deref.result.now c.args.options.base first.1) (sym c.in_file-2.ensures ∙ c.in_err-text.was) refl c.from_residual-in_err-text.ensures.1

pub returns-clause-carried : goal.returns-clause-carried
returns-clause-carried g c =
    let walk = start (cold_command (told_options c.args.options) c.args.binary.now c.args.profile.now) in
    let first = good c.read.result _ walk c.in_ok-file.ensures.read c.in_ok-file.ensures.within c.read_file.ensures.store c.deref.ensures.value sized-binary c.read.ensures (sym c.in_file.ensures ∙ c.in_ok-binary.was) in
    let second = good c.cold.result (λ out. out.items ≡ cold_output c.args.options.base c.deref.result.now c.deref-2.result.now) first.0 c.in_ok-profile.ensures.read c.in_ok-profile.ensures.within c.read_file-2.ensures.store c.deref-2.ensures.value (sized-profile 2)
    (c.cold.ensures c.deref.result.now c.args.options.base first.1) (sym c.in_file-2.ensures ∙ c.in_ok-text.was) in
    all second.0 refl (any-store _ second.1)
