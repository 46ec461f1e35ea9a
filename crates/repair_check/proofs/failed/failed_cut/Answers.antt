use Rattle.std.proofs.Common.{◌+◌, refl, ◌∙◌, sym, ap, Some}
use Rattle.repair_model.specs.Checking.{first_failing}
use Rattle.repair_check.proofs.FailLemmas.{behind_blocks}
use Rattle.repair_check.proofs.failed.failed_cut.Goals as goal

pub returns-then-is_cut : goal.returns-then-is_cut
returns-then-is_cut c =
    let passes = sym c.is_cut.ensures ∙ c.if-is_cut.true in
    rw (behind_blocks (c.args.repair.now.line + 1) c.args.net.now.blocks _, passes) refl

pub returns-else-is_cut : goal.returns-else-is_cut
returns-else-is_cut c =
    let fails = sym c.is_cut.ensures ∙ c.if-is_cut.false in
    rw (behind_blocks (c.args.repair.now.line + 1) c.args.net.now.blocks _, fails, c.block_count.ensures.value) refl
