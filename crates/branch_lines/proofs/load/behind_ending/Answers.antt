use Rattle.std.proofs.Common.{◌≡◌, ◌<◌, ◌-◌, ℕ, length, take, drop, Some, None, ◌∙◌, arith, length-drop}
use Rattle.std.proofs.lemmas.Bool.Decides.{Decides-eqb}
use Rattle.std.proofs.lemmas.Grind.{common_steps}
use Rattle.std.proofs.lemmas.List.{take_all}
use Rattle.std.proofs.lemmas.Slice.Eq.{strip_prefix_is}
use Rattle.sample_model.specs.Loads.{is_field_end}
use Rattle.branch_lines.proofs.LoadLineLemmas.{behind_where-next, behind_where-not}
use Rattle.branch_lines.proofs.load.behind_ending.Goals as goal
use Rattle.branch_lines.proofs.load.behind_ending.Goals.{in-Some+else-is_field_end, in_default}

pub loop-rest-preserved : goal.loop-rest-preserved
loop-rest-preserved c =
    let rest = c.loop-rest.rest.now in
    let some : 0 < length rest = grind (arith, common_steps) in
    let next : take (length rest - 1) (drop 1 rest) ≡ drop 1 rest = take_all _ _ (omega (arith, length-drop {A = ℕ})) in
    elim c.match-strip_prefix.branch [
      | in-Some+else-is_field_end w ↦
          behind_where-not is_field_end c.args.ending.now rest _ w.in-Some.behind some (strip_prefix_is Decides-eqb rest c.args.ending.now (Some w.in-Some.behind) w.in-Some.ensures.cases)
          (grind (arith, common_steps)) next ∙ c.loop-rest.invariant
      | in_default w ↦
          behind_where-next is_field_end c.args.ending.now rest _ some (strip_prefix_is Decides-eqb rest c.args.ending.now None w.in_default.ensures.cases) next ∙ c.loop-rest.invariant
    ]
