use Rattle.std.proofs.Common.{◌≡◌, ◌++◌, List, ℕ, ap, append_assoc, ◌∙◌}
use Rattle.indexmap.proofs.MapLemmas.{OnOk-map}
use Rattle.report_model.specs.declared.class.Class.{Class}
use Rattle.report_model.specs.declared.class.RangeClass.{RangeClass}
use Rattle.report_model.specs.Report.{Classes, Sampled, branches_text, ranges_text, report_text, units_text}
use Rattle.profile_report.specs.declared.classed.Classed.{Classed}
use Rattle.profile_report.specs.Told.{Tells}
use Rattle.text_scan.proofs.Growth.{in_front_of_both}
use Rattle.profile_report.proofs.report.write.Goals as goal

pub returns-clause-appended : goal.returns-clause-appended
unfolding report_text
returns-clause-appended c =
    let out = c.args.out.now.items in
    let branches = c.args.branches.now in
    let ranges = c.args.ranges.now in
    let units = c.args.units in
    let told : ((classes : Classes) (sampled : Sampled) (bs : List (Classed Class)) (rs : List (Classed RangeClass)) → Tells classes sampled bs rs units
    → c.push_units.new.out.items ≡ c.push_ranges.new.out.items ++ units_text sampled)
    → (classes : Classes) (sampled : Sampled) → Tells classes sampled branches ranges units
    → c.push_units.new.out.items ≡ out ++ report_text classes sampled =
    λ last classes sampled tells.
    let of_branches = branches_text classes sampled in
    let of_ranges = ranges_text classes sampled in
    let of_units = units_text sampled in
    last classes sampled branches ranges tells
    ∙ ap (λ (t : List ℕ). t ++ of_units)
    (c.in_ok-push_ranges.ensures.appended classes sampled branches units tells ∙ ap (λ (t : List ℕ). t ++ of_ranges) (c.in_ok-push_branches.ensures.appended classes sampled ranges units tells))
    ∙ append_assoc (out ++ of_branches) of_ranges of_units
    ∙ append_assoc out of_branches (of_ranges ++ of_units) in
    OnOk-map _ _ _ told c.push_units.ensures.appended

pub returns-in_err-push_ranges-clause-grows : goal.returns-in_err-push_ranges-clause-grows
returns-in_err-push_ranges-clause-grows c = in_front_of_both _ _ _ c.in_ok-push_branches.ensures.grows c.in_err-push_ranges.ensures.grows

pub returns-clause-grows : goal.returns-clause-grows
returns-clause-grows c =
    in_front_of_both _ _ _ c.in_ok-push_branches.ensures.grows (in_front_of_both _ _ _ c.in_ok-push_ranges.ensures.grows c.push_units.ensures.grows)
