-- The definitions on worked values.
use Rattle.std.proofs.Common.{◌≡◌, ℕ, [], ◌∷◌, ◌++◌, Option, None, Some, refl, nat_eq, nat_lt, cond}
use Rattle.std.specs.Prelude.{codes}
use Rattle.std.specs.Fmt.{digits}
use Rattle.text_model.specs.Numbers.{hex_text}
use Rattle.report_model.specs.Ranges.{range_class}
use Rattle.report_model.specs.declared.class.Class.{Class}
use Rattle.report_model.specs.declared.class.Class.TheVariants.{Entry, Inside, Unmapped}
use Rattle.report_model.specs.declared.class.RangeClass.TheVariants.{RangeOutside, Reversed, Crossing}
use Rattle.report_model.specs.declared.class.Reason.TheVariants.{FromNameless, FromNoLine, FromOutside, ToNameless, ToOutside}
use Rattle.report_model.specs.Report.{Classes, Sampled, report_text}

-- three samples of two branches each, one end of each branch outside
classes : Classes
classes = record {
  of_branch = λ b. cond (nat_eq b.0 9) (Unmapped FromOutside) (cond (nat_eq b.1 9) (Unmapped ToOutside) Inside);
  of_range = λ r. cond (nat_lt r.1 r.0) Reversed (cond (nat_lt r.0 0x400ff8) RangeOutside Crossing);
}

sampled : Sampled
sampled = record {
  branches = (0x401004, 9) ∷ (9, 0x401008) ∷ (0x401050, 9) ∷ (9, 0x401030) ∷ (0x401004, 9) ∷ (9, 0x400ff0) ∷ [];
  ranges = (0x401008, 0x401004) ∷ (0x401030, 0x401050) ∷ (0x400ff0, 0x401004) ∷ [];
  units_read = 1;
  units_passed = 0;
}

unmapped_come_by_reason : report_text classes sampled ≡
    codes "# branches 6\n# entries 0\n# inside 0\n"
    ++ codes "# unmapped FromOutside 0x9 0x400ff0 1\n# unmapped FromOutside 0x9 0x401008 1\n"
    ++ codes "# unmapped FromOutside 0x9 0x401030 1\n# unmapped ToOutside 0x401004 0x9 2\n"
    ++ codes "# unmapped ToOutside 0x401050 0x9 1\n"
    ++ codes "# ranges ran 0\n# ranges reversed 1\n# ranges outside 1\n# ranges crossing 1\n# units read 1 passed 0\n"
unfolding report_text hex_text digits classes sampled
unmapped_come_by_reason = refl

-- a branch for each reason, as the first end says which, and each by its word; branches of one reason by their addresses
reasons_of : ℕ → Class
reasons_of from =
    cond (nat_eq from 1) (Unmapped ToNameless) (cond (nat_eq from 2) (Unmapped ToOutside)
    (cond (nat_eq from 3) (Unmapped FromNoLine) (cond (nat_eq from 4) (Unmapped FromNameless)
    (cond (nat_eq from 5) (Unmapped FromOutside) (cond (nat_eq from 6) (Entry (record { 0 = 7 })) Inside)))))

-- function 1 from 10 on, function 2 from 20 on, none from 30 on
functions : ℕ → Option ℕ
functions a = cond (nat_lt a 10) None (cond (nat_lt a 20) (Some 1) (cond (nat_lt a 30) (Some 2) None))

all_reasons : Classes
all_reasons = record { of_branch = λ b. reasons_of b.0; of_range = λ r. range_class functions r.0 r.1 }

-- of the ranges one ran, two go back, three have an end or both outside, and one crosses
of_each : Sampled
of_each = record {
  branches = (7, 1) ∷ (1, 31) ∷ (6, 9) ∷ (2, 3) ∷ (1, 30) ∷ (3, 3) ∷ (5, 9) ∷ (4, 1) ∷ (2, 3) ∷ (6, 8) ∷ (7, 2) ∷ (7, 1) ∷ [];
  ranges = (5, 12) ∷ (12, 35) ∷ (10, 19) ∷ (12, 25) ∷ (19, 12) ∷ (5, 35) ∷ (40, 39) ∷ [];
  units_read = 2;
  units_passed = 3;
}

each_reason_by_its_word : report_text all_reasons of_each ≡
    codes "# branches 12\n# entries 2\n# inside 3\n"
    ++ codes "# unmapped FromOutside 0x5 0x9 1\n# unmapped FromNameless 0x4 0x1 1\n# unmapped FromNoLine 0x3 0x3 1\n"
    ++ codes "# unmapped ToOutside 0x2 0x3 2\n# unmapped ToNameless 0x1 0x1e 1\n# unmapped ToNameless 0x1 0x1f 1\n"
    ++ codes "# ranges ran 1\n# ranges reversed 2\n# ranges outside 3\n# ranges crossing 1\n# units read 2 passed 3\n"
unfolding report_text hex_text digits reasons_of functions all_reasons of_each
each_reason_by_its_word = refl
