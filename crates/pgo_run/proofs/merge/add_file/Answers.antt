use Rattle.std.proofs.Common.{◌≤◌, length, subst, sym}
use Rattle.profile_model.specs.Merge.{merged}
use Rattle.command_model.specs.Files.{max_profile_bytes}
use Rattle.command_words.specs.Words.{told_weighed}
use Rattle.pgo_run.proofs.MergeLemmas.{added, not-added}
use Rattle.program_edge.proofs.ReachedLemmas.{is-there}
use Rattle.program_edge.proofs.SizedLemmas.{sized-part}
use Rattle.program_edge.proofs.WalkLemmas.{said-unread}
use Rattle.pgo_run.proofs.merge.add_file.Goals as goal

pub returns-in_err-buffer-clause-file : goal.returns-in_err-buffer-clause-file
returns-in_err-buffer-clause-file g c = λ texts so_far.
    not-added _ c.args.k (told_weighed c.args.part) texts c.in_err-buffer.field-0.0 _ _ c.from_residual.ensures.1
    (said-unread c.in_err-buffer.field-0.0 (sized-part c.args.k (told_weighed c.args.part).0 (merged texts)) _ c.args.part.file.now c.in_err-buffer.ensures.read.file)

pub returns-clause-file : goal.returns-clause-file
returns-clause-file g c = λ texts so_far.
    let within = subst (λ t. length t ≤ max_profile_bytes) (sym c.deref.ensures.value) c.in_ok-buffer.ensures.within in
    added _ c.args.k (told_weighed c.args.part) texts c.deref.result.now c.add.result _ _ c.in_file.ensures
    (is-there _ c.args.part.file.now c.args.k max_profile_bytes c.in_ok-buffer.field-0 c.deref.result.now c.in_ok-buffer.ensures.read.file c.deref.ensures.value)
    within (c.add.ensures texts so_far)
