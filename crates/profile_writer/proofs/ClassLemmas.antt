-- A report asks of classes only whether they are entries, inside, or unmapped for a reason.
use Rattle.std.proofs.Common.{◌≡◌, ℕ, Bool, List, ◌++◌, filter, length, Option, None, Some, refl, sym, ap, ◌∙◌}
use Rattle.std.specs.Prelude.{codes, count_by}
use Rattle.std.specs.List.{flat_map}
use Rattle.key_types.specs.declared.ids.NameId.{NameId}
use Rattle.key_types.specs.declared.key.Key.{Key}
use Rattle.key_types.specs.declared.places.Seg.{Seg}
use Rattle.key_types.specs.declared.places.Where.{Where}
use Rattle.key_types.specs.declared.places.Where.TheVariants.{At}
use Rattle.sample_model.specs.Pairs.{distinct_pairs, times_of}
use Rattle.report_model.specs.declared.class.Class.{Class}
use Rattle.report_model.specs.declared.class.Class.TheVariants.{Entry, Inside, Unmapped}
use Rattle.report_model.specs.declared.class.Reason.{Reason}
use Rattle.report_model.specs.Branches.{branch_class, class_by, class_by_reason, is_entry, is_inside, is_unmapped, reason_of}
use Rattle.report_model.specs.Ranges.{range_class}
use Rattle.binary_model.specs.Places.{Place, outside, nameless, no_line, at_way}
use Rattle.report_model.specs.Report.{Classes, Sampled, number_line, ranges_text, reasons, report_text, units_text, unmapped_line}
use Rattle.output_model.specs.Program.{Program}
use Rattle.output_model.specs.Sampled.{class_of_branch, class_of_places, classes_of, reason_of_places}
use Rattle.profile_writer.specs.Told.{TellsName, TellsPlace, TellsProgram}

-- a class in which all names are one
abbrev simple : Class → Class
simple (Entry name) = Entry (record { 0 = 0 })
simple Inside = Inside
simple (Unmapped reason) = Unmapped reason

simple_entry : (c : Class) → is_entry (simple c) ≡ is_entry c
simple_entry (Entry name) = refl
simple_entry Inside = refl
simple_entry (Unmapped reason) = refl

simple_inside : (c : Class) → is_inside (simple c) ≡ is_inside c
simple_inside (Entry name) = refl
simple_inside Inside = refl
simple_inside (Unmapped reason) = refl

simple_unmapped : (reason : Reason) (c : Class) → is_unmapped reason (simple c) ≡ is_unmapped reason c
simple_unmapped reason (Entry name) = refl
simple_unmapped reason Inside = refl
simple_unmapped reason (Unmapped other) = refl

abbrev simplified : Classes → Classes
simplified classes = record { of_branch = λ branch. simple (classes.of_branch branch); of_range = classes.of_range }

-- the report, by the tests that it makes of branches
abbrev text_by : Classes → Sampled → (ℕ × ℕ → Bool) → (ℕ × ℕ → Bool) → (Reason → ℕ × ℕ → Bool) → List ℕ
text_by classes sampled entry inside unmapped =
    (number_line (codes "branches") (length sampled.branches)
    ++ (number_line (codes "entries") (count_by entry sampled.branches)
    ++ (number_line (codes "inside") (count_by inside sampled.branches)
    ++ flat_map (λ reason. flat_map (λ branch. unmapped_line reason branch (times_of branch sampled.branches)) (filter (unmapped reason) (distinct_pairs sampled.branches))) reasons)))
    ++ (ranges_text classes sampled ++ units_text sampled)

pub simplified_report : (classes : Classes) (sampled : Sampled) → report_text (simplified classes) sampled ≡ report_text classes sampled
unfolding report_text
simplified_report classes sampled =
    λ i. text_by classes sampled
    (λ branch. simple_entry (classes.of_branch branch) i) (λ branch. simple_inside (classes.of_branch branch) i) (λ reason branch. simple_unmapped reason (classes.of_branch branch) i)

-- a map's answers give the reason that the places give
reason_alike : (names : List (List ℕ)) (keys : List Key) (p q : Place) (from to : Where) → TellsPlace names keys p from → TellsPlace names keys q to
    → reason_of_places p q ≡ reason_of from to
reason_alike names keys outside q from to here there = sym (ap (λ w. reason_of w to) here)
reason_alike names keys nameless q from to here there = sym (ap (λ w. reason_of w to) here)
reason_alike names keys no_line q from to here there = sym (ap (λ w. reason_of w to) here)
reason_alike names keys (at_way way) outside from to here there = sym (ap (λ w. reason_of w to) here.1 ∙ ap (λ w. reason_of (At here.0) w) there)
reason_alike names keys (at_way way) nameless from to here there = sym (ap (λ w. reason_of w to) here.1 ∙ ap (λ w. reason_of (At here.0) w) there)
reason_alike names keys (at_way way) no_line from to here there = sym (ap (λ w. reason_of w to) here.1 ∙ ap (λ w. reason_of (At here.0) w) there)
reason_alike names keys (at_way way) (at_way other) from to here there = sym (ap (λ w. reason_of w to) here.1 ∙ ap (λ w. reason_of (At here.0) w) there.1)

simple_reason : (reason : Option Reason) → class_by_reason reason ≡ simple (class_by_reason reason)
simple_reason None = refl
simple_reason (Some reason) = refl

class_alike : (names : List (List ℕ)) (name : Option (List ℕ)) (answer : Option NameId) (p q : Place) (from to : Where) → TellsName names name answer
    → reason_of_places p q ≡ reason_of from to → class_of_places name p q ≡ simple (class_by answer from to)
class_alike names None answer p q from to shown same =
    ap class_by_reason same ∙ simple_reason (reason_of from to) ∙ sym (ap (λ a. simple (class_by a from to)) shown)
class_alike names (Some name) answer p q from to shown same = sym (ap (λ a. simple (class_by a from to)) shown.1)

-- the classes that a map tells
abbrev pub classes_told : (ℕ → Where) → (ℕ → Option ℕ) → (ℕ → Option NameId) → Classes
classes_told place function entered = record {
  of_branch = λ branch. branch_class place entered branch.0 branch.1;
  of_range = λ range. range_class function range.0 range.1;
}

module _ (program : Program) (names : List (List ℕ)) (keys : List Key) (segments : List Seg) (place : ℕ → Where) (function : ℕ → Option ℕ) (entered : ℕ → Option NameId)
    (shown : TellsProgram program names keys segments place function entered) where
  branch_alike : (branch : ℕ × ℕ) → class_of_branch program branch ≡ simple (branch_class place entered branch.0 branch.1)
  branch_alike branch =
      class_alike names (program.entered branch.1) (entered branch.1) (program.place branch.0) (program.place branch.1) (place branch.0) (place branch.1) (shown.entrances branch.1)
      (reason_alike names keys (program.place branch.0) (program.place branch.1) (place branch.0) (place branch.1) (shown.places branch.0) (shown.places branch.1))

  pub report_alike : (sampled : Sampled) → report_text (classes_told place function entered) sampled ≡ report_text (classes_of program) sampled
  report_alike sampled =
      sym (simplified_report (classes_told place function entered) sampled)
      ∙ ap (λ classes. report_text classes sampled)
      (λ i. record { of_branch = λ branch. sym (branch_alike branch) i; of_range = λ range. range_class (λ address. shown.functions address i) range.0 range.1 })
