use Rattle.std.proofs.Common.{◌≤◌, ◌^◌, ap, length, List, map, refl, subst, sym, ◌∙◌}
use Rattle.std.specs.List.{All}
use Rattle.cfg_text.specs.declared.fun.Fun.{Fun}
use Rattle.cfg_text.specs.Fun.{function_of}
use Rattle.flow_model.specs.Sound.{IsSound}
use Rattle.binary_model.specs.Binary.{first_bad_of_binary}
use Rattle.block_model.specs.Judging as block_model
use Rattle.command_model.specs.Command.{build as build_command}
use Rattle.command_model.specs.Files.{max_block_bytes}
use Rattle.command_words.specs.Words.{told_options}
use Rattle.program_edge.proofs.ReachedLemmas.{judged-good, where-told}
use Rattle.program_edge.proofs.SamplesLemmas.{counted}
use Rattle.program_edge.proofs.SizedLemmas.{sized-binary, sized-blocks}
use Rattle.program_edge.proofs.WalkLemmas.{all, bad, good, lacks, start, stops, unread}
use Rattle.pgo_run.proofs.BuildLemmas.{built, read_few, read_soundly}
use Rattle.pgo_run.proofs.build.output.Goals as goal

pub returns-in_err-file-clause-carried : goal.returns-in_err-file-clause-carried
returns-in_err-file-clause-carried g c =
    let walk = start (build_command (told_options c.args.options) c.args.binary.now c.args.perf.now c.args.blocks.now) in
    unread walk c.in_err-file.ensures.read sized-binary refl c.from_residual.ensures.1

pub returns-in_err-binary-clause-carried : goal.returns-in_err-binary-clause-carried
returns-in_err-binary-clause-carried g c =
    let walk = start (build_command (told_options c.args.options) c.args.binary.now c.args.perf.now c.args.blocks.now) in
    bad c.read.result _ walk c.in_ok-file.ensures.read c.in_ok-file.ensures.within c.deref.ensures.value sized-binary c.read.ensures (sym c.in_file.ensures ∙ c.in_err-binary.was) refl
    c.from_residual-in_err-binary.ensures.1

pub returns-in_err-counts-clause-carried : goal.returns-in_err-counts-clause-carried
returns-in_err-counts-clause-carried g c =
    let walk = start (build_command (told_options c.args.options) c.args.binary.now c.args.perf.now c.args.blocks.now) in
    let first = good c.read.result _ walk c.in_ok-file.ensures.read c.in_ok-file.ensures.within c.read_file.ensures.store c.deref.ensures.value sized-binary c.read.ensures (sym c.in_file.ensures ∙ c.in_ok-binary.was) in
    stops first.0 c.in_err-counts.ensures.read (λ file ends. ends) refl c.from_residual-in_err-counts.ensures.1

pub returns-in_err-block_text-clause-carried : goal.returns-in_err-block_text-clause-carried
returns-in_err-block_text-clause-carried g c =
    let walk = start (build_command (told_options c.args.options) c.args.binary.now c.args.perf.now c.args.blocks.now) in
    let first = good c.read.result _ walk c.in_ok-file.ensures.read c.in_ok-file.ensures.within c.read_file.ensures.store c.deref.ensures.value sized-binary c.read.ensures (sym c.in_file.ensures ∙ c.in_ok-binary.was) in
    let second = counted first.0 c.in_ok-counts.ensures.read c.sampled.ensures.store in
    unread second.1 c.in_err-block_text.ensures.read (sized-blocks 3) refl c.from_residual-in_err-block_text.ensures.1

pub returns-in_err-funs-clause-carried : goal.returns-in_err-funs-clause-carried
returns-in_err-funs-clause-carried g c =
    let walk = start (build_command (told_options c.args.options) c.args.binary.now c.args.perf.now c.args.blocks.now) in
    let first = good c.read.result _ walk c.in_ok-file.ensures.read c.in_ok-file.ensures.within c.read_file.ensures.store c.deref.ensures.value sized-binary c.read.ensures (sym c.in_file.ensures ∙ c.in_ok-binary.was) in
    let second = counted first.0 c.in_ok-counts.ensures.read c.sampled.ensures.store in
    bad c.read-2.result _ second.1 c.in_ok-block_text.ensures.read c.in_ok-block_text.ensures.within c.deref-3.ensures.value (sized-blocks 3) c.read-2.ensures (sym c.in_file-2.ensures ∙ c.in_err-funs.was) refl
    c.from_residual-in_err-funs.ensures.1

pub build-requires-clause-binary : goal.build-requires-clause-binary
build-requires-clause-binary g c =
    let read = judged-good 1 (first_bad_of_binary c.deref.result.now) c.read.result _ c.in_ok-binary.binary c.read.ensures (sym c.in_file.ensures ∙ c.in_ok-binary.was) in
    (c.deref.result.now, c.args.options.base, read.1)

pub build-requires-clause-sound : goal.build-requires-clause-sound
build-requires-clause-sound g c =
    let read = judged-good 3 (block_model.first_bad_of_text 3 c.deref-3.result.now) c.read-2.result _ c.in_ok-funs.funs c.read-2.ensures (sym c.in_file-2.ensures ∙ c.in_ok-funs.was) in
    subst (λ fs. All (λ fun. IsSound fun.blocks fun.edges) fs) (sym c.deref-4.ensures.value) (read_soundly 3 c.deref-3.result.now c.in_ok-funs.funs.items read.0 read.1)

pub build-requires-clause-few : goal.build-requires-clause-few
build-requires-clause-few g c =
    let read = judged-good 3 (block_model.first_bad_of_text 3 c.deref-3.result.now) c.read-2.result _ c.in_ok-funs.funs c.read-2.ensures (sym c.in_file-2.ensures ∙ c.in_ok-funs.was) in
    subst (λ (fs : List Fun). length fs ≤ 2 ^ 29) (sym c.deref-4.ensures.value)
    (read_few c.deref-3.result.now c.in_ok-funs.funs.items (subst (λ t. length t ≤ max_block_bytes) (sym c.deref-3.ensures.value) c.in_ok-block_text.ensures.within) read.1)

pub returns-in_err-text-clause-carried : goal.returns-in_err-text-clause-carried
returns-in_err-text-clause-carried g c =
    let walk = start (build_command (told_options c.args.options) c.args.binary.now c.args.perf.now c.args.blocks.now) in
    let first = good c.read.result _ walk c.in_ok-file.ensures.read c.in_ok-file.ensures.within c.read_file.ensures.store c.deref.ensures.value sized-binary c.read.ensures (sym c.in_file.ensures ∙ c.in_ok-binary.was) in
    let second = counted first.0 c.in_ok-counts.ensures.read c.sampled.ensures.store in
    let third = good c.read-2.result _ second.1 c.in_ok-block_text.ensures.read c.in_ok-block_text.ensures.within c.read_file-2.ensures.store c.deref-3.ensures.value (sized-blocks 3) c.read-2.ensures (sym c.in_file-2.ensures ∙ c.in_ok-funs.was) in
    lacks third.0 c.from_residual-in_err-text.ensures.1

pub returns-clause-carried : goal.returns-clause-carried
returns-clause-carried g c =
    let walk = start (build_command (told_options c.args.options) c.args.binary.now c.args.perf.now c.args.blocks.now) in
    let first = good c.read.result _ walk c.in_ok-file.ensures.read c.in_ok-file.ensures.within c.read_file.ensures.store c.deref.ensures.value sized-binary c.read.ensures (sym c.in_file.ensures ∙ c.in_ok-binary.was) in
    let second = counted first.0 c.in_ok-counts.ensures.read c.sampled.ensures.store in
    let third = good c.read-2.result _ second.1 c.in_ok-block_text.ensures.read c.in_ok-block_text.ensures.within c.read_file-2.ensures.store c.deref-3.ensures.value (sized-blocks 3) c.read-2.ensures (sym c.in_file-2.ensures ∙ c.in_ok-funs.was) in
    all third.0 refl
    (where-told _ second.2 (λ files tells. built c.deref.result.now c.args.options c.in_ok-binary.binary c.deref-2.result.now c.in_ok-counts.counts second.0 c.deref-3.result.now c.in_ok-text.text.items
    c.deref-4.result.now first.1 c.deref-2.ensures.value c.in_ok-text.ensures c.in_ok-counts.ensures.ranged tells (ap (map function_of) c.deref-4.ensures.value ∙ third.1)))
