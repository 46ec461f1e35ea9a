use Rattle.std.proofs.Common.{◌≡◌, ◌++◌, List, ℕ, ap, ◌∙◌}
use Rattle.std.specs.Prelude.{codes}
use Rattle.indexmap.proofs.MapLemmas.{OnOk-map}
use Rattle.report_model.specs.declared.class.Class.{Class}
use Rattle.report_model.specs.Report.{Classes, Sampled, number_line, ranges_text}
use Rattle.profile_report.specs.declared.classed.Classed.{Classed}
use Rattle.profile_report.specs.declared.report.BranchUnits.{BranchUnits}
use Rattle.profile_report.specs.Told.{Tells}
use Rattle.profile_report.proofs.JoinLemmas.{joined4}
use Rattle.profile_report.proofs.ToldLemmas.{ranges_told}
use Rattle.text_scan.proofs.Growth.{in_front_behind, in_front_either}
use Rattle.profile_report.proofs.report.push_ranges.Goals as goal

pub returns-clause-appended : goal.returns-clause-appended
returns-clause-appended c =
    let out = c.args.out.now.items in
    let times = c.count_ranges-times.result in
    let ran = number_line (codes "ranges ran") times.ran in
    let reversed = number_line (codes "ranges reversed") times.reversed in
    let outside = number_line (codes "ranges outside") times.outside in
    let crossing = number_line (codes "ranges crossing") times.crossing in
    let told : c.push_number_line-4.new.out.items ≡ c.push_number_line-3.new.out.items ++ crossing
    → (classes : Classes) (sampled : Sampled) (branches : List (Classed Class)) (units : BranchUnits) → Tells classes sampled branches c.args.ranges.now units
    → c.push_number_line-4.new.out.items ≡ out ++ ranges_text classes sampled =
    λ last classes sampled branches units tells.
    last
    ∙ ap (λ (t : List ℕ). t ++ crossing) (c.in_ok-push_number_line-3.ensures.appended ∙ ap (λ (t : List ℕ). t ++ outside) (c.in_ok-push_number_line-2.ensures.appended ∙ ap (λ (t : List ℕ). t ++ reversed) c.in_ok-push_number_line.ensures.appended))
    ∙ joined4 out ran reversed outside crossing
    ∙ ap (λ (t : List ℕ). out ++ t)
    (ranges_told classes sampled branches c.args.ranges.now units tells times.ran times.reversed times.outside times.crossing
    c.count_ranges-times.ensures.ran c.count_ranges-times.ensures.reversed c.count_ranges-times.ensures.outside c.count_ranges-times.ensures.crossing) in
    OnOk-map _ _ _ told c.push_number_line-4.ensures.appended

pub returns-clause-grows : goal.returns-clause-grows
returns-clause-grows c =
    in_front_behind _ _ _ _ c.in_ok-push_number_line.ensures.appended (in_front_behind _ _ _ _ c.in_ok-push_number_line-2.ensures.appended (in_front_behind _ _ _ _ c.in_ok-push_number_line-3.ensures.appended
    (in_front_either c.push_number_line-4.result _ _ _ c.push_number_line-4.ensures.appended c.push_number_line-4.ensures.grows)))
