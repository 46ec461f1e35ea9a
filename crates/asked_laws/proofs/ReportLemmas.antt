-- Programs that answer samples alike have one report on them.
use Rattle.std.proofs.Common.{◌≡◌, ℕ, Bool, List, [], ◌∷◌, ◌++◌, length, ap}
use Rattle.std.specs.Prelude.{codes, count_by}
use Rattle.std.specs.List.{AllByRecursion, flat_map}
use Rattle.sample_model.specs.Pairs.{distinct_pairs, times_of}
use Rattle.profile_model.specs.Text.{text_of_lines}
use Rattle.report_model.specs.declared.class.Class.{Class}
use Rattle.report_model.specs.declared.class.RangeClass.{RangeClass}
use Rattle.report_model.specs.declared.class.RangeClass.TheVariants.{Ran, Reversed, RangeOutside, Crossing}
use Rattle.report_model.specs.declared.class.Reason.{Reason}
use Rattle.report_model.specs.Branches.{is_entry, is_inside, is_unmapped}
use Rattle.report_model.specs.Ranges.{is_class}
use Rattle.report_model.specs.Report.{Sampled, branches_where, number_line, ranges_of_class, reasons, report_text, units_text, unmapped_for, unmapped_line}
use Rattle.output_model.specs.Output.{output_text}
use Rattle.output_model.specs.Program.{Program}
use Rattle.output_model.specs.Sampled.{class_of_branch, class_of_places, classes_of}
use Rattle.asked_laws.specs.Alike.{AnswerAlike}
use Rattle.asked_laws.specs.Laws.{ProfilesAskNoMore}
use Rattle.asked_laws.proofs.ListLemmas.{all_of, counted_alike, distinct_all, kept_alike}
use Rattle.asked_laws.proofs.ProfileLemmas.{lines_alike, range_classes_alike}

module _ (sampled : Sampled) (program other : Program) (alike : AnswerAlike sampled program other) where
  classes_alike : AllByRecursion (λ branch. class_of_branch program branch ≡ class_of_branch other branch) sampled.branches
  classes_alike =
      all_of (λ branch. class_of_branch program branch ≡ class_of_branch other branch) sampled.branches
      (λ branch there i. class_of_places (alike.entered branch there i) (alike.from branch there i) (alike.to branch there i))

  tests_alike : {X : Type 0} (test : Class → X) (xs : List (ℕ × ℕ)) → AllByRecursion (λ branch. class_of_branch program branch ≡ class_of_branch other branch) xs
      → AllByRecursion (λ branch. test (class_of_branch program branch) ≡ test (class_of_branch other branch)) xs
  tests_alike test [] all = tt
  tests_alike test (branch ∷ xs) all = (ap test all.0, tests_alike test xs all.1)

  where_alike : (is : Class → Bool) → branches_where (classes_of program) sampled is ≡ branches_where (classes_of other) sampled is
  where_alike is =
      counted_alike (λ branch. is (class_of_branch program branch)) (λ branch. is (class_of_branch other branch)) sampled.branches
      (tests_alike is sampled.branches classes_alike)

  unmapped_alike : (reason : Reason) → unmapped_for (classes_of program) sampled reason ≡ unmapped_for (classes_of other) sampled reason
  unmapped_alike reason =
      kept_alike (λ branch. is_unmapped reason (class_of_branch program branch)) (λ branch. is_unmapped reason (class_of_branch other branch)) (distinct_pairs sampled.branches)
      (tests_alike (is_unmapped reason) (distinct_pairs sampled.branches)
      (distinct_all (λ branch. class_of_branch program branch ≡ class_of_branch other branch) sampled.branches classes_alike))

  of_class_alike : (class : RangeClass) → ranges_of_class (classes_of program) sampled class ≡ ranges_of_class (classes_of other) sampled class
  of_class_alike class = λ i. count_by (λ range. is_class class (range_classes_alike sampled program other alike i range)) sampled.ranges

  pub reports_alike : report_text (classes_of program) sampled ≡ report_text (classes_of other) sampled
  unfolding report_text
  reports_alike = λ i.
      (number_line (codes "branches") (length sampled.branches)
      ++ (number_line (codes "entries") (where_alike is_entry i)
      ++ (number_line (codes "inside") (where_alike is_inside i)
      ++ flat_map (λ reason. flat_map (λ branch. unmapped_line reason branch (times_of branch sampled.branches)) (unmapped_alike reason i)) reasons)))
      ++ ((number_line (codes "ranges ran") (of_class_alike Ran i)
      ++ (number_line (codes "ranges reversed") (of_class_alike Reversed i)
      ++ (number_line (codes "ranges outside") (of_class_alike RangeOutside i)
      ++ number_line (codes "ranges crossing") (of_class_alike Crossing i))))
      ++ units_text sampled)

pub profiles_ask_no_more : ProfilesAskNoMore
unfolding output_text
profiles_ask_no_more sampled program other alike =
    λ i. text_of_lines (lines_alike sampled program other alike i) ++ reports_alike sampled program other alike i
