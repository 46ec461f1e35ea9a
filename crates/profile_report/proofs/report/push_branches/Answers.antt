use Rattle.std.proofs.Common.{◌≡◌, ◌++◌, List, ℕ, ap, ◌∙◌}
use Rattle.std.specs.Prelude.{codes}
use Rattle.std.specs.List.{flat_map}
use Rattle.indexmap.proofs.MapLemmas.{OnOk-map}
use Rattle.report_model.specs.declared.class.RangeClass.{RangeClass}
use Rattle.report_model.specs.Report.{Classes, Sampled, branches_text, number_line, reasons}
use Rattle.profile_report.specs.declared.classed.Classed.{Classed}
use Rattle.profile_report.specs.declared.report.BranchUnits.{BranchUnits}
use Rattle.profile_report.specs.Classed.{lines_for}
use Rattle.profile_report.specs.Told.{Tells}
use Rattle.profile_report.proofs.JoinLemmas.{joined4}
use Rattle.profile_report.proofs.ToldLemmas.{branches_told}
use Rattle.text_scan.proofs.Growth.{in_front_behind, in_front_either}
use Rattle.profile_report.proofs.report.push_branches.Goals as goal

pub returns-clause-appended : goal.returns-clause-appended
returns-clause-appended c =
    let out = c.args.out.now.items in
    let taken = c.count_taken-taken.result in
    let all = number_line (codes "branches") taken.all in
    let entries = number_line (codes "entries") taken.entries in
    let inside = number_line (codes "inside") taken.inside in
    let unmapped = flat_map (lines_for c.args.branches.now) reasons in
    let told : c.push_unmapped.new.out.items ≡ c.push_number_line-3.new.out.items ++ unmapped
    → (classes : Classes) (sampled : Sampled) (ranges : List (Classed RangeClass)) (units : BranchUnits) → Tells classes sampled c.args.branches.now ranges units
    → c.push_unmapped.new.out.items ≡ out ++ branches_text classes sampled =
    λ last classes sampled ranges units tells.
    last
    ∙ ap (λ (t : List ℕ). t ++ unmapped) (c.in_ok-push_number_line-3.ensures.appended ∙ ap (λ (t : List ℕ). t ++ inside) (c.in_ok-push_number_line-2.ensures.appended ∙ ap (λ (t : List ℕ). t ++ entries) c.in_ok-push_number_line.ensures.appended))
    ∙ joined4 out all entries inside unmapped
    ∙ ap (λ (t : List ℕ). out ++ t)
    (branches_told classes sampled c.args.branches.now ranges units tells taken.all taken.entries taken.inside c.count_taken-taken.ensures.all c.count_taken-taken.ensures.entries c.count_taken-taken.ensures.inside) in
    OnOk-map _ _ _ told c.push_unmapped.ensures.appended

pub returns-clause-grows : goal.returns-clause-grows
returns-clause-grows c =
    in_front_behind _ _ _ _ c.in_ok-push_number_line.ensures.appended (in_front_behind _ _ _ _ c.in_ok-push_number_line-2.ensures.appended (in_front_behind _ _ _ _ c.in_ok-push_number_line-3.ensures.appended
    (in_front_either c.push_unmapped.result _ _ _ c.push_unmapped.ensures.appended c.push_unmapped.ensures.grows)))
