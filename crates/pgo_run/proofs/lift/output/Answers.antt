use Rattle.std.proofs.Common.{◌≤◌, ap, length, map, refl, subst, sym, ◌∙◌}
use Rattle.std.specs.List.{All}
use Rattle.binary_model.specs.Binary.{first_bad_of_binary}
use Rattle.block_model.specs.Judging as block_model
use Rattle.block_model.specs.Text.{functions_of}
use Rattle.cfg_text.specs.Fun.{function_of}
use Rattle.flow_model.specs.Sound.{IsSound}
use Rattle.lift_maker.specs.Lift.{Lifts}
use Rattle.command_model.specs.Command.{lift as lift_command}
use Rattle.command_model.specs.Files.{max_repair_bytes}
use Rattle.command_words.specs.Words.{told_options}
use Rattle.program_edge.proofs.ReachedLemmas.{any-store, judged-good}
use Rattle.program_edge.proofs.SizedLemmas.{sized-binary, sized-blocks, sized-built}
use Rattle.program_edge.proofs.WalkLemmas.{all, bad, fails, good, start, unread}
use Rattle.pgo_run.proofs.BuildLemmas.{read_soundly}
use Rattle.pgo_run.proofs.lift.output.Goals as goal

pub returns-in_err-file-clause-carried : goal.returns-in_err-file-clause-carried
returns-in_err-file-clause-carried g c =
    let walk = start (lift_command (told_options c.args.options) c.args.binary.now c.args.blocks.now c.args.built.now) in
    unread walk c.in_err-file.ensures.read sized-binary refl c.from_residual.ensures.1

pub returns-in_err-binary-clause-carried : goal.returns-in_err-binary-clause-carried
returns-in_err-binary-clause-carried g c =
    let walk = start (lift_command (told_options c.args.options) c.args.binary.now c.args.blocks.now c.args.built.now) in
    bad c.read.result _ walk c.in_ok-file.ensures.read c.in_ok-file.ensures.within c.deref.ensures.value sized-binary c.read.ensures (sym c.in_file.ensures ∙ c.in_err-binary.was) refl
    c.from_residual-in_err-binary.ensures.1

pub returns-in_err-block_text-clause-carried : goal.returns-in_err-block_text-clause-carried
returns-in_err-block_text-clause-carried g c =
    let walk = start (lift_command (told_options c.args.options) c.args.binary.now c.args.blocks.now c.args.built.now) in
    let first = good c.read.result _ walk c.in_ok-file.ensures.read c.in_ok-file.ensures.within c.read_file.ensures.store c.deref.ensures.value sized-binary c.read.ensures (sym c.in_file.ensures ∙ c.in_ok-binary.was) in
    unread first.0 c.in_err-block_text.ensures.read (sized-blocks 2) refl c.from_residual-in_err-block_text.ensures.1

pub returns-in_err-funs-clause-carried : goal.returns-in_err-funs-clause-carried
returns-in_err-funs-clause-carried g c =
    let walk = start (lift_command (told_options c.args.options) c.args.binary.now c.args.blocks.now c.args.built.now) in
    let first = good c.read.result _ walk c.in_ok-file.ensures.read c.in_ok-file.ensures.within c.read_file.ensures.store c.deref.ensures.value sized-binary c.read.ensures (sym c.in_file.ensures ∙ c.in_ok-binary.was) in
    bad c.read-2.result _ first.0 c.in_ok-block_text.ensures.read c.in_ok-block_text.ensures.within c.deref-2.ensures.value (sized-blocks 2) c.read-2.ensures (sym c.in_file-2.ensures ∙ c.in_err-funs.was) refl
    c.from_residual-in_err-funs.ensures.1

pub returns-in_err-text-clause-carried : goal.returns-in_err-text-clause-carried
returns-in_err-text-clause-carried g c =
    let walk = start (lift_command (told_options c.args.options) c.args.binary.now c.args.blocks.now c.args.built.now) in
    let first = good c.read.result _ walk c.in_ok-file.ensures.read c.in_ok-file.ensures.within c.read_file.ensures.store c.deref.ensures.value sized-binary c.read.ensures (sym c.in_file.ensures ∙ c.in_ok-binary.was) in
    let second = good c.read-2.result _ first.0 c.in_ok-block_text.ensures.read c.in_ok-block_text.ensures.within c.read_file-2.ensures.store c.deref-2.ensures.value (sized-blocks 2) c.read-2.ensures (sym c.in_file-2.ensures ∙ c.in_ok-funs.was) in
    unread second.0 c.in_err-text.ensures.read (sized-built 3 (functions_of c.deref-2.result.now)) refl c.from_residual-in_err-text.ensures.1

pub lift-requires-clause-size : goal.lift-requires-clause-size
lift-requires-clause-size g c = subst (λ t. length t ≤ max_repair_bytes) (sym c.deref-4.ensures.value) c.in_ok-text.ensures.within

pub lift-requires-clause-binary : goal.lift-requires-clause-binary
lift-requires-clause-binary g c =
    let read = judged-good 1 (first_bad_of_binary c.deref.result.now) c.read.result _ c.in_ok-binary.binary c.read.ensures (sym c.in_file.ensures ∙ c.in_ok-binary.was) in
    (c.deref.result.now, c.args.options.base, read.1)

pub lift-requires-clause-sound : goal.lift-requires-clause-sound
lift-requires-clause-sound g c =
    let read = judged-good 2 (block_model.first_bad_of_text 2 c.deref-2.result.now) c.read-2.result _ c.in_ok-funs.funs c.read-2.ensures (sym c.in_file-2.ensures ∙ c.in_ok-funs.was) in
    subst (λ fs. All (λ fun. IsSound fun.blocks fun.edges) fs) (sym c.deref-3.ensures.value) (read_soundly 2 c.deref-2.result.now c.in_ok-funs.funs.items read.0 read.1)

pub returns-in_err-lifted-clause-carried : goal.returns-in_err-lifted-clause-carried
returns-in_err-lifted-clause-carried g c =
    let walk = start (lift_command (told_options c.args.options) c.args.binary.now c.args.blocks.now c.args.built.now) in
    let first = good c.read.result _ walk c.in_ok-file.ensures.read c.in_ok-file.ensures.within c.read_file.ensures.store c.deref.ensures.value sized-binary c.read.ensures (sym c.in_file.ensures ∙ c.in_ok-binary.was) in
    let second = good c.read-2.result _ first.0 c.in_ok-block_text.ensures.read c.in_ok-block_text.ensures.within c.read_file-2.ensures.store c.deref-2.ensures.value (sized-blocks 2) c.read-2.ensures (sym c.in_file-2.ensures ∙ c.in_ok-funs.was) in
    let judges = c.lift.ensures c.deref.result.now c.args.options.base c.deref-2.result.now first.1 (ap (map function_of) c.deref-3.ensures.value ∙ second.1) in
    bad c.lift.result (Lifts c.deref.result.now c.args.options.base c.deref-2.result.now c.deref-4.result.now) second.0 c.in_ok-text.ensures.read c.in_ok-text.ensures.within c.deref-4.ensures.value
    (sized-built 3 (functions_of c.deref-2.result.now)) judges (sym c.in_file-3.ensures ∙ c.in_err-lifted.was) refl c.from_residual-in_err-lifted.ensures.1

pub returns-in-Text-clause-carried : goal.returns-in-Text-clause-carried
returns-in-Text-clause-carried g c =
    let walk = start (lift_command (told_options c.args.options) c.args.binary.now c.args.blocks.now c.args.built.now) in
    let first = good c.read.result _ walk c.in_ok-file.ensures.read c.in_ok-file.ensures.within c.read_file.ensures.store c.deref.ensures.value sized-binary c.read.ensures (sym c.in_file.ensures ∙ c.in_ok-binary.was) in
    let second = good c.read-2.result _ first.0 c.in_ok-block_text.ensures.read c.in_ok-block_text.ensures.within c.read_file-2.ensures.store c.deref-2.ensures.value (sized-blocks 2) c.read-2.ensures (sym c.in_file-2.ensures ∙ c.in_ok-funs.was) in
    let judges = c.lift.ensures c.deref.result.now c.args.options.base c.deref-2.result.now first.1 (ap (map function_of) c.deref-3.ensures.value ∙ second.1) in
    let third = good c.lift.result (Lifts c.deref.result.now c.args.options.base c.deref-2.result.now c.deref-4.result.now) second.0 c.in_ok-text.ensures.read c.in_ok-text.ensures.within c.read_file-3.ensures.store c.deref-4.ensures.value
    (sized-built 3 (functions_of c.deref-2.result.now)) judges (sym c.in_file-3.ensures ∙ c.in_ok-lifted.was) in
    let is = subst (Lifts c.deref.result.now c.args.options.base c.deref-2.result.now c.deref-4.result.now) c.in-Text.is third.1 in
    all third.0 is.0 (any-store _ is.1)

pub returns-clause-carried : goal.returns-clause-carried
returns-clause-carried g c =
    let walk = start (lift_command (told_options c.args.options) c.args.binary.now c.args.blocks.now c.args.built.now) in
    let first = good c.read.result _ walk c.in_ok-file.ensures.read c.in_ok-file.ensures.within c.read_file.ensures.store c.deref.ensures.value sized-binary c.read.ensures (sym c.in_file.ensures ∙ c.in_ok-binary.was) in
    let second = good c.read-2.result _ first.0 c.in_ok-block_text.ensures.read c.in_ok-block_text.ensures.within c.read_file-2.ensures.store c.deref-2.ensures.value (sized-blocks 2) c.read-2.ensures (sym c.in_file-2.ensures ∙ c.in_ok-funs.was) in
    let judges = c.lift.ensures c.deref.result.now c.args.options.base c.deref-2.result.now first.1 (ap (map function_of) c.deref-3.ensures.value ∙ second.1) in
    let third = good c.lift.result (Lifts c.deref.result.now c.args.options.base c.deref-2.result.now c.deref-4.result.now) second.0 c.in_ok-text.ensures.read c.in_ok-text.ensures.within c.read_file-3.ensures.store c.deref-4.ensures.value
    (sized-built 3 (functions_of c.deref-2.result.now)) judges (sym c.in_file-3.ensures ∙ c.in_ok-lifted.was) in
    fails third.0 (subst (Lifts c.deref.result.now c.args.options.base c.deref-2.result.now c.deref-4.result.now) c.in-Failed.is third.1)
