-- The report of a profile: what became of each sampled branch and range.
use Rattle.std.specs.Prelude.{ℕ, Bool, List, [], ◌∷◌, ◌++◌, codes, count_by, filter, length}
use Rattle.std.specs.List.{flat_map}
use Rattle.text_model.specs.Numbers.{hex_text, decimal_text}
use Rattle.sample_model.specs.Pairs.{distinct_pairs, times_of}
use Rattle.report_model.specs.declared.class.Class.{Class}
use Rattle.report_model.specs.declared.class.RangeClass.{RangeClass}
use Rattle.report_model.specs.declared.class.RangeClass.TheVariants.{Ran, Reversed, RangeOutside, Crossing}
use Rattle.report_model.specs.declared.class.Reason.{Reason}
use Rattle.report_model.specs.declared.class.Reason.TheVariants.{FromOutside, FromNameless, FromNoLine, ToOutside, ToNameless}
use Rattle.report_model.specs.Branches.{is_entry, is_inside, is_unmapped}
use Rattle.report_model.specs.Ranges.{is_class}

-- The class of each branch, and of each sampled range.
pub record Classes : Type 0 where
  pub of_branch : ℕ × ℕ → Class
  pub of_range : ℕ × ℕ → RangeClass

-- What was sampled, with repeats, and how many units of the binary were read and passed over.
pub record Sampled : Type 0 where
  pub branches : List (ℕ × ℕ)
  pub ranges : List (ℕ × ℕ)
  pub units_read : ℕ
  pub units_passed : ℕ

-- A line that tells how many there are of something.
abbrev pub number_line : List ℕ → ℕ → List ℕ
number_line what n = codes "# " ++ (what ++ (codes " " ++ (decimal_text n ++ codes "\n")))

-- The reasons, in the order in which they are tried.
abbrev pub reasons : List Reason
reasons = FromOutside ∷ FromNameless ∷ FromNoLine ∷ ToOutside ∷ ToNameless ∷ []

-- The word of a reason.
abbrev pub word_of : Reason → List ℕ
word_of FromOutside = codes "FromOutside"
word_of FromNameless = codes "FromNameless"
word_of FromNoLine = codes "FromNoLine"
word_of ToOutside = codes "ToOutside"
word_of ToNameless = codes "ToNameless"

-- The line of a branch that cannot be told of places: why, where it came from and went to, and how often.
abbrev pub unmapped_line : Reason → ℕ × ℕ → ℕ → List ℕ
unmapped_line reason branch times =
    codes "# unmapped " ++ (word_of reason ++ (codes " " ++ (hex_text branch.0
    ++ (codes " " ++ (hex_text branch.1 ++ (codes " " ++ (decimal_text times ++ codes "\n")))))))

-- How many branches are of a kind of classes.
abbrev pub branches_where : Classes → Sampled → (Class → Bool) → ℕ
branches_where classes sampled is = count_by (λ branch. is (classes.of_branch branch)) sampled.branches

-- How many ranges are of a class.
abbrev pub ranges_of_class : Classes → Sampled → RangeClass → ℕ
ranges_of_class classes sampled class = count_by (λ range. is_class class (classes.of_range range)) sampled.ranges

-- The distinct branches that are unmapped for a reason, by source and then by target.
abbrev pub unmapped_for : Classes → Sampled → Reason → List (ℕ × ℕ)
unmapped_for classes sampled reason =
    filter (λ branch. is_unmapped reason (classes.of_branch branch)) (distinct_pairs sampled.branches)

-- The lines of the branches that are unmapped for a reason.
abbrev pub lines_for : Classes → Sampled → Reason → List ℕ
lines_for classes sampled reason =
    flat_map (λ branch. unmapped_line reason branch (times_of branch sampled.branches))
    (unmapped_for classes sampled reason)

-- What became of the branches.
abbrev pub branches_text : Classes → Sampled → List ℕ
branches_text classes sampled =
    number_line (codes "branches") (length sampled.branches)
    ++ (number_line (codes "entries") (branches_where classes sampled is_entry)
    ++ (number_line (codes "inside") (branches_where classes sampled is_inside)
    ++ flat_map (lines_for classes sampled) reasons))

-- What became of the ranges.
abbrev pub ranges_text : Classes → Sampled → List ℕ
ranges_text classes sampled =
    number_line (codes "ranges ran") (ranges_of_class classes sampled Ran)
    ++ (number_line (codes "ranges reversed") (ranges_of_class classes sampled Reversed)
    ++ (number_line (codes "ranges outside") (ranges_of_class classes sampled RangeOutside)
    ++ number_line (codes "ranges crossing") (ranges_of_class classes sampled Crossing)))

-- What became of the units of the binary.
abbrev pub units_text : Sampled → List ℕ
units_text sampled =
    codes "# units read " ++ (decimal_text sampled.units_read
    ++ (codes " passed " ++ (decimal_text sampled.units_passed ++ codes "\n")))

-- The whole report.
unfoldable pub report_text : Classes → Sampled → List ℕ
report_text classes sampled = branches_text classes sampled ++ (ranges_text classes sampled ++ units_text sampled)
