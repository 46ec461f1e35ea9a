use Rattle.std.proofs.Common.{◌≡◌, ◌<◌, ◌-◌, ℕ, true, codes, length, take, drop, None, ◌∙◌, arith, length-drop}
use Rattle.std.proofs.lemmas.Bool.Decides.{Decides-eqb}
use Rattle.std.proofs.lemmas.Grind.{common_steps}
use Rattle.std.proofs.lemmas.List.{take_all}
use Rattle.std.proofs.lemmas.Slice.Eq.{strip_prefix_is}
use Rattle.branch_lines.proofs.LoadLineLemmas.{behind_where-next}
use Rattle.branch_lines.proofs.load.behind_mark.Goals as goal

pub loop-rest-preserved : goal.loop-rest-preserved
loop-rest-preserved c =
    let rest = c.loop-rest.rest.now in
    let some : 0 < length rest = grind (arith, common_steps) in
    let next : take (length rest - 1) (drop 1 rest) ≡ drop 1 rest = take_all _ _ (omega (arith, length-drop {A = ℕ})) in
    behind_where-next (λ _. true) (codes "PERF_RECORD_MMAP2 ") rest _ some (strip_prefix_is Decides-eqb rest (codes "PERF_RECORD_MMAP2 ") None c.in_default.ensures.cases) next
    ∙ c.loop-rest.invariant
