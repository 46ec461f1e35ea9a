use Rattle.std.proofs.Common.{[], ◌∷◌, ◌≡◌, ◌≤◌, Option, ℕ, arith, ap, length, map, refl, subst, sym, ◌∙◌}
use Rattle.std.specs.List.{All, AllZip}
use Rattle.cfg_text.specs.Fun.{function_of}
use Rattle.flow_model.specs.Sound.{IsSound}
use Rattle.block_model.specs.Judging as block_model
use Rattle.block_model.specs.Text.{functions_of}
use Rattle.repair_model.specs.Checking as repair_model
use Rattle.repair_model.specs.Judging.{first_bad_of_repairs}
use Rattle.repair_model.specs.Laws.{IsToldOf}
use Rattle.repair_model.specs.Text.{repairs_of}
use Rattle.repair_text.specs.Repair.{numbered}
use Rattle.command_model.specs.Command.{check as check_command}
use Rattle.command_model.specs.Files.{max_repair_bytes}
use Rattle.program_edge.proofs.ReachedLemmas.{any-store, judged-good}
use Rattle.program_edge.proofs.SizedLemmas.{sized-blocks, sized-repairs}
use Rattle.program_edge.proofs.WalkLemmas.{Walk, all, bad, fails, good, lacks, start, unread}
use Rattle.pgo_run.proofs.BuildLemmas.{read_soundly}
use Rattle.pgo_run.proofs.CheckLemmas.{checked_is, failed_is, sized-told, told_whole}
use Rattle.pgo_run.proofs.check.output.Given.{Over}
use Rattle.pgo_run.proofs.check.output.Goals.{After-deref-5}
use Rattle.pgo_run.proofs.check.output.Goals as goal

pub returns-in_err-block_text-clause-carried : goal.returns-in_err-block_text-clause-carried
returns-in_err-block_text-clause-carried g c =
    let walk = start (check_command c.args.blocks.now c.args.repairs.now) in
    unread walk c.in_err-block_text.ensures.read (sized-blocks 1) refl c.from_residual.ensures.1

pub returns-in_err-funs-clause-carried : goal.returns-in_err-funs-clause-carried
returns-in_err-funs-clause-carried g c =
    let walk = start (check_command c.args.blocks.now c.args.repairs.now) in
    bad c.read.result _ walk c.in_ok-block_text.ensures.read c.in_ok-block_text.ensures.within c.deref.ensures.value (sized-blocks 1) c.read.ensures (sym c.in_file.ensures ∙ c.in_err-funs.was) refl
    c.from_residual-in_err-funs.ensures.1

pub returns-in_err-repair_text-clause-carried : goal.returns-in_err-repair_text-clause-carried
returns-in_err-repair_text-clause-carried g c =
    let walk = start (check_command c.args.blocks.now c.args.repairs.now) in
    let first = good c.read.result _ walk c.in_ok-block_text.ensures.read c.in_ok-block_text.ensures.within c.read_file.ensures.store c.deref.ensures.value (sized-blocks 1) c.read.ensures (sym c.in_file.ensures ∙ c.in_ok-funs.was) in
    unread first.0 c.in_err-repair_text.ensures.read (sized-repairs 2 (functions_of c.deref.result.now)) refl c.from_residual-in_err-repair_text.ensures.1

pub returns-in_err-repairs-clause-carried : goal.returns-in_err-repairs-clause-carried
returns-in_err-repairs-clause-carried g c =
    let walk = start (check_command c.args.blocks.now c.args.repairs.now) in
    let first = good c.read.result _ walk c.in_ok-block_text.ensures.read c.in_ok-block_text.ensures.within c.read_file.ensures.store c.deref.ensures.value (sized-blocks 1) c.read.ensures (sym c.in_file.ensures ∙ c.in_ok-funs.was) in
    bad c.read-2.result _ first.0 c.in_ok-repair_text.ensures.read c.in_ok-repair_text.ensures.within c.deref-2.ensures.value
    (sized-told (functions_of c.deref.result.now) (map function_of c.deref-3.result.now) (ap (map function_of) c.deref-3.ensures.value ∙ first.1))
    c.read-2.ensures (sym c.in_file-2.ensures ∙ c.in_err-repairs.was) refl c.from_residual-in_err-repairs.ensures.1

pub failed_line-requires-clause-sound : goal.failed_line-requires-clause-sound
failed_line-requires-clause-sound g c =
    let read = judged-good 1 (block_model.first_bad_of_text 1 c.deref.result.now) c.read.result _ c.in_ok-funs.funs c.read.ensures (sym c.in_file.ensures ∙ c.in_ok-funs.was) in
    subst (λ fs. All (λ fun. IsSound fun.blocks fun.edges) fs) (sym c.deref-4.ensures.value) (read_soundly 1 c.deref.result.now c.in_ok-funs.funs.items read.0 read.1)

pub failed_line-requires-clause-told : goal.failed_line-requires-clause-told
failed_line-requires-clause-told g c =
    let within_2 = subst (λ t. length t ≤ max_repair_bytes) (sym c.deref-2.ensures.value) c.in_ok-repair_text.ensures.within in
    let second = judged-good 2 (first_bad_of_repairs 2 (map function_of c.deref-3.result.now) c.deref-2.result.now) c.read-2.result _ c.in_ok-repairs.repairs c.read-2.ensures (sym c.in_file-2.ensures ∙ c.in_ok-repairs.was) in
    subst (λ fs. AllZip IsToldOf (map function_of fs) (map numbered c.deref-5.result.now)) (c.deref-3.ensures.value ∙ sym c.deref-4.ensures.value)
    (told_whole 2 (map function_of c.deref-3.result.now) c.deref-2.result.now (map numbered c.deref-5.result.now) within_2 second.0
    (ap (map numbered) c.deref-5.ensures.value ∙ second.1))

-- both texts are there and good, and the functions and repairs are those that they spell
module _ (g : Over) (c : After-deref-5 g) where
  walk : (map function_of c.in_ok-funs.funs.items ≡ functions_of c.deref.result.now)
      × (map numbered c.in_ok-repairs.repairs.items ≡ repairs_of (map function_of c.deref-3.result.now) c.deref-2.result.now)
      × Walk (check_command c.args.blocks.now c.args.repairs.now) (g.I.Inputs.store c.args.inputs.now) (g.I.Inputs.store c.read_file-2.new.inputs) (c.deref.result.now ∷ c.deref-2.result.now ∷ []) []
      (g.I.Inputs.opens c.args.inputs.now) (g.I.Inputs.opens c.read_file-2.new.inputs) (g.I.Inputs.faults c.args.inputs.now) (g.I.Inputs.faults c.read_file-2.new.inputs)
  walk =
      let at = start (check_command c.args.blocks.now c.args.repairs.now) in
      let first = good c.read.result _ at c.in_ok-block_text.ensures.read c.in_ok-block_text.ensures.within c.read_file.ensures.store c.deref.ensures.value (sized-blocks 1) c.read.ensures (sym c.in_file.ensures ∙ c.in_ok-funs.was) in
      let second = good c.read-2.result _ first.0 c.in_ok-repair_text.ensures.read c.in_ok-repair_text.ensures.within c.read_file-2.ensures.store c.deref-2.ensures.value
      (sized-told (functions_of c.deref.result.now) (map function_of c.deref-3.result.now) (ap (map function_of) c.deref-3.ensures.value ∙ first.1))
      c.read-2.ensures (sym c.in_file-2.ensures ∙ c.in_ok-repairs.was) in
      (first.1, second.1, second.0)

  -- the line that fails is that of the texts' bytes
  failing : (failed : Option ℕ) → failed ≡ repair_model.failed_line (map function_of c.deref-4.result.now) (map numbered c.deref-5.result.now)
      → repair_model.failed_line (functions_of c.deref.result.now) (repairs_of (functions_of c.deref.result.now) c.deref-2.result.now) ≡ failed
  failing failed is =
      failed_is c.deref.result.now c.deref-2.result.now (map function_of c.deref-4.result.now) (map numbered c.deref-5.result.now) failed is
      (ap (map function_of) c.deref-4.ensures.value ∙ walk.0)
      (rw (c.deref-4.ensures.value, ← c.deref-3.ensures.value, c.deref-5.ensures.value) walk.1)

pub returns-in_err-failed-clause-carried : goal.returns-in_err-failed-clause-carried
returns-in_err-failed-clause-carried g c =
    let before = (goal.at.returns-in_err-failed-clause-carried g c).After-deref-5 in
    lacks (walk g before).2 c.from_residual-in_err-failed.ensures.1

pub returns-in-Some-clause-carried : goal.returns-in-Some-clause-carried
returns-in-Some-clause-carried g c =
    let before = (goal.at.returns-in-Some-clause-carried g c).After-deref-5 in
    fails (walk g before).2 (failing g before c.in_ok-failed.failed c.in_ok-failed.ensures ∙ c.in-Some.is)

pub returns-in_err-text-clause-carried : goal.returns-in_err-text-clause-carried
returns-in_err-text-clause-carried g c =
    let before = (goal.at.returns-in_err-text-clause-carried g c).After-deref-5 in
    lacks (walk g before).2 c.from_residual-in_err-text.ensures.1

pub returns-clause-carried : goal.returns-clause-carried
returns-clause-carried g c =
    let before = (goal.at.returns-clause-carried g c).After-deref-5 in
    let counted : c.len.result ≡ length c.in_ok-funs.funs.items = omega (arith, c.len.ensures, c.deref-4.ensures.len, ap length c.deref-4.ensures.value) in
    all (walk g before).2 (failing g before c.in_ok-failed.failed c.in_ok-failed.ensures ∙ c.in_default.is)
    (any-store _ (checked_is c.deref.result.now c.in_ok-text.text.items c.in_ok-funs.funs.items c.len.result (walk g before).0 counted c.in_ok-text.ensures))
