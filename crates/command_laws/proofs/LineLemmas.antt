-- The lines of a profile and of a report begin no function, so a repair text passes them over.
use Rattle.std.proofs.Common.{◌≡◌, ℕ, zero, suc, ◌+◌, ◌/◌, ◌%◌, ◌≤◌, Bool, true, false, ◌&&◌, ◌||◌, List, [], ◌∷◌, ◌++◌, take, Option, None, Some, refl, arith, sym, ap, ◌∙◌, subst, append_assoc}
use Rattle.std.specs.Prelude.{◌==◌, nat_eq, nat_lt, codes, ⊤, if◌then◌else◌}
use Rattle.std.specs.Cmp.Lexicographic.{pointwise}
use Rattle.std.specs.Fmt.{digit_glyph, digits, digits_onto}
use Rattle.std.specs.List.{AllByRecursion, filter_map, flat_map, list_any, starts_with}
use Rattle.std.specs.Option.{option_map}
use Rattle.std.proofs.lemmas.Bool.{ne_eqb, or_right}
use Rattle.std.proofs.lemmas.Grind.{flat_map-append}
use Rattle.std.proofs.lemmas.List.{append-nil}
use Rattle.text_model.specs.Laws.{HasNoLineFeed, ended}
use Rattle.text_model.specs.Lines.{is_line_feed}
use Rattle.text_model.specs.LineTests.{is_blank_line}
use Rattle.text_model.specs.Numbers.{decimal_text, hex_text}
use Rattle.profile_model.specs.Orders.{target_cmp, way_cmp}
use Rattle.profile_model.specs.Profile.{Line, Profile, body_line, call_line, function_line, entered, line_at, line_by, lines_of, recorded, targets_of, total_of_function, written}
use Rattle.profile_model.specs.Reading.{behind_spaces, is_passed}
use Rattle.profile_model.specs.Text.{disc_text, indent, line_text, location_text, named_text, profile_text, target_text, text_of_lines}
use Rattle.profile_model.specs.Ways.{Kind, Step, Way, beginnings, body, call, function, last_step}
use Rattle.profile_tree.proofs.ListLemmas.{SomeAll, all_append, all_beginnings, all_ordered}
use Rattle.repair_model.specs.Laws.{IsPassedOver}
use Rattle.repair_model.specs.Line.{begins_function}
pub use Rattle.repair_model.proofs.BackLemmas.{both_clean}
use Rattle.report_model.specs.declared.class.Reason.{Reason}
use Rattle.report_model.specs.declared.class.Reason.TheVariants.{FromOutside, FromNameless, FromNoLine, ToOutside, ToNameless}
use Rattle.report_model.specs.Report.{Classes, Sampled, branches_text, lines_for, number_line, ranges_text, reasons, report_text, units_text, unmapped_for, unmapped_line, word_of}
use Rattle.output_model.specs.Program.{Program, program_of, way_at, way_of_place}
use Rattle.output_model.specs.Sampled.{all_addresses, call_by, call_of, count_among, head_of as entry_of, profile_among, profile_of, ways_among}
use Rattle.output_model.specs.Scaled.{augmentations_line}
use Rattle.binary_model.specs.Places.{Place, at_way, nameless, no_line, outside}
use Rattle.spelling_laws.specs.Told.{IsComment}
use Rattle.way_laws.proofs.EachLemmas.{OfSome, all_filtered, all_found, all_mapped, either_all}
use Rattle.command_laws.proofs.NameLemmas.{BeginsOther, IsClean, IsCleanIfAny, IsCleanPlace, entries_clean, places_clean}

-- ---- texts of such lines

pub record AreLinesOf (P : List ℕ → Type 0) (text : List ℕ) : Type 0 where
  pub lines : List (List ℕ)
  pub joined : text ≡ flat_map ended lines
  pub passed : AllByRecursion P lines

abbrev pub AreLines : List ℕ → Type 0
AreLines = AreLinesOf IsPassedOver

pub no_lines : {P : List ℕ → Type 0} → AreLinesOf P []
no_lines = record { lines = []; joined = refl; passed = tt }

pub one_line : {P : List ℕ → Type 0} (line : List ℕ) → P line → AreLinesOf P (ended line)
one_line line passed = record { lines = line ∷ []; joined = sym (append-nil (ended line)); passed = (passed, tt) }

pub both_lines : {P : List ℕ → Type 0} (one other : List ℕ) → AreLinesOf P one → AreLinesOf P other → AreLinesOf P (one ++ other)
both_lines {P} one other are also = record {
  lines = are.lines ++ also.lines;
  joined = ap (λ t. t ++ other) are.joined ∙ ap (λ t. flat_map ended are.lines ++ t) also.joined ∙ sym (flat_map-append ended are.lines also.lines);
  passed = all_append P are.lines also.lines are.passed also.passed;
}

-- A text where it is asked for, and its lines.
abbrev pub where_asked : Bool → List ℕ → List ℕ
where_asked asked text = if asked then text else []

pub asked_lines : {P : List ℕ → Type 0} (asked : Bool) (text : List ℕ) → AreLinesOf P text → AreLinesOf P (where_asked asked text)
asked_lines true text are = are
asked_lines false text are = no_lines

each_lines : {P : List ℕ → Type 0} {X : Type 0} (f : X → List ℕ) (xs : List X) → ((x : X) → AreLinesOf P (f x)) → AreLinesOf P (flat_map f xs)
each_lines f [] are = no_lines
each_lines f (x ∷ xs) are = both_lines (f x) (flat_map f xs) (are x) (each_lines f xs are)

same_lines : {P : List ℕ → Type 0} (one other : List ℕ) → other ≡ one → AreLinesOf P one → AreLinesOf P other
same_lines {P} one other same are = subst (AreLinesOf P) (sym same) are

weaker : {P Q : List ℕ → Type 0} (text : List ℕ) → ((line : List ℕ) → P line → Q line) → AreLinesOf P text → AreLinesOf Q text
weaker {P} {Q} text gives are = record { lines = are.lines; joined = are.joined; passed = each are.lines are.passed }
  where
    each : (lines : List (List ℕ)) → AllByRecursion P lines → AllByRecursion Q lines
    each [] all = tt
    each (line ∷ lines) all = (gives line all.0, each lines all.1)

-- ---- no line feed

-- Digits are above any line feed, and above `#`.
glyph_high : (upper : Bool) (d : ℕ) → 48 ≤ digit_glyph upper d
glyph_high upper d = by (nat_lt d 10) upper
  where
    by : (a b : Bool) → 48 ≤ (if a then 48 + d else (if b then 55 + d else 87 + d))
    by true b = omega arith
    by false true = omega arith
    by false false = omega arith

abbrev AreHigh : List ℕ → Type 0
AreHigh = AllByRecursion (λ b. 48 ≤ b)

onto_high : (k base : ℕ) (upper : Bool) (n : ℕ) (acc : List ℕ) → AreHigh acc → AreHigh (digits_onto k base upper n acc)
onto_high zero base upper n acc high = high
onto_high (suc k) base upper n acc high =
    either_all (λ b. 48 ≤ b) (n / base == 0) _ _ (glyph_high upper (n % base), high) (onto_high k base upper (n / base) _ (glyph_high upper (n % base), high))

digits_high : (base : ℕ) (upper : Bool) (n : ℕ) → AreHigh (digits base upper n)
unfolding digits
digits_high base upper n = onto_high 64 base upper n [] tt

high_clean : (bytes : List ℕ) → AreHigh bytes → HasNoLineFeed bytes
high_clean [] high = refl
high_clean (b ∷ bytes) high = ap (λ t. t || list_any is_line_feed bytes) (ne_eqb b 10 (λ same. let h = high.0 in omega (arith, h, same))) ∙ high_clean bytes high.1

pub number_clean : (n : ℕ) → HasNoLineFeed (decimal_text n)
number_clean n = high_clean (decimal_text n) (digits_high 10 false n)

hex_clean : (n : ℕ) → HasNoLineFeed (hex_text n)
unfolding hex_text
hex_clean n = high_clean (digits 16 false n) (digits_high 16 false n)

-- ---- lines that begin with no `#`

other_first : (b : ℕ) (bytes : List ℕ) → nat_eq 35 b ≡ false → begins_function (b ∷ bytes) ≡ false
other_first b bytes other = ap (λ t. t && pointwise nat_eq (codes " function ") (take 10 bytes)) other

passed_other : (line : List ℕ) → BeginsOther line → HasNoLineFeed line → IsPassedOver line
passed_other [] other clean = record { other = refl; clean = clean }
passed_other (b ∷ bytes) other clean = record { other = other_first b bytes other; clean = clean }

-- ---- profiles

disc_clean : (disc : ℕ) → HasNoLineFeed (disc_text disc)
disc_clean disc = by (disc == 0)
  where
    by : (t : Bool) → HasNoLineFeed (if t then [] else codes "." ++ decimal_text disc)
    by true = refl
    by false = number_clean disc

location_clean : (offset disc : ℕ) → HasNoLineFeed (location_text offset disc)
location_clean offset disc = both_clean (decimal_text offset) (disc_text disc) (number_clean offset) (disc_clean disc)

named_clean : (name : List ℕ) (n : ℕ) → HasNoLineFeed name → HasNoLineFeed (named_text name n)
named_clean name n clean = both_clean (name ++ codes ":") (decimal_text n) (both_clean name (codes ":") clean refl) (number_clean n)

targets_clean : (targets : List (List ℕ × ℕ)) → AllByRecursion (λ target. IsClean target.0) targets → HasNoLineFeed (flat_map target_text targets)
targets_clean [] all = refl
targets_clean ((name, times) ∷ targets) all =
    both_clean (target_text (name, times)) (flat_map target_text targets) (named_clean name times all.0.clean) (targets_clean targets all.1)

indent_clean : (depth : ℕ) → HasNoLineFeed (indent depth)
indent_clean zero = refl
indent_clean (suc depth) = indent_clean depth

located_clean : (depth offset disc : ℕ) → HasNoLineFeed (indent depth ++ location_text offset disc ++ codes ": ")
located_clean depth offset disc =
    both_clean (indent depth ++ location_text offset disc) (codes ": ") (both_clean (indent depth) (location_text offset disc) (indent_clean depth) (location_clean offset disc)) refl

-- What stands behind a front begins as the front does, and behind none as it does itself.
begins_behind : (front rest : List ℕ) → BeginsOther front → BeginsOther rest → BeginsOther (front ++ rest)
begins_behind [] rest first behind = behind
begins_behind (b ∷ front) rest first behind = first

high_begins : (bytes : List ℕ) → AreHigh bytes → BeginsOther bytes
high_begins [] high = tt
high_begins (b ∷ bytes) high = ne_eqb 35 b (λ same. let h = high.0 in omega (arith, h, same))

number_begins : (n : ℕ) → BeginsOther (decimal_text n)
number_begins n = high_begins (decimal_text n) (digits_high 10 false n)

indent_begins : (depth : ℕ) → BeginsOther (indent depth)
indent_begins zero = tt
indent_begins (suc depth) = refl

disc_begins : (disc : ℕ) → BeginsOther (disc_text disc)
disc_begins disc = by (disc == 0)
  where
    by : (t : Bool) → BeginsOther (if t then [] else codes "." ++ decimal_text disc)
    by true = tt
    by false = refl

located_begins : (depth offset disc : ℕ) → BeginsOther (indent depth ++ location_text offset disc ++ codes ": ")
located_begins depth offset disc =
    begins_behind (indent depth ++ location_text offset disc) (codes ": ")
    (begins_behind (indent depth) (location_text offset disc) (indent_begins depth)
    (begins_behind (decimal_text offset) (disc_text disc) (number_begins offset) (disc_begins disc)))
    refl

named_begins : (name : List ℕ) (n : ℕ) → BeginsOther name → BeginsOther (named_text name n)
named_begins name n other = begins_behind (name ++ codes ":") (decimal_text n) (begins_behind name (codes ":") other refl) (number_begins n)

abbrev IsCleanLine : Line → Type 0
IsCleanLine (function_line name total head) = IsClean name
IsCleanLine (body_line depth offset disc count targets) = AllByRecursion (λ target. IsClean target.0) targets
IsCleanLine (call_line depth offset disc name total) = IsClean name

profile_line_passed : (line : Line) → IsCleanLine line → IsPassedOver (line_text line)
profile_line_passed (function_line name total head) clean = passed_other _
    (begins_behind (named_text name total ++ codes ":") (decimal_text head) (begins_behind (named_text name total) (codes ":") (named_begins name total clean.other) refl) (number_begins head))
    (both_clean (named_text name total ++ codes ":") (decimal_text head) (both_clean (named_text name total) (codes ":") (named_clean name total clean.clean) refl) (number_clean head))
profile_line_passed (body_line depth offset disc count targets) clean =
    let front = indent depth ++ location_text offset disc ++ codes ": " in
    passed_other _
    (begins_behind (front ++ decimal_text count) (flat_map target_text targets)
    (begins_behind front (decimal_text count) (located_begins depth offset disc) (number_begins count)) (targets_begin targets))
    (both_clean (front ++ decimal_text count) (flat_map target_text targets)
    (both_clean front (decimal_text count) (located_clean depth offset disc) (number_clean count)) (targets_clean targets clean))
  where
    targets_begin : (targets : List (List ℕ × ℕ)) → BeginsOther (flat_map target_text targets)
    targets_begin [] = tt
    targets_begin ((name, times) ∷ targets) = refl
profile_line_passed (call_line depth offset disc name total) clean =
    let front = indent depth ++ location_text offset disc ++ codes ": " in
    passed_other _
    (begins_behind front (named_text name total) (located_begins depth offset disc) (named_begins name total clean.other))
    (both_clean front (named_text name total) (located_clean depth offset disc) (named_clean name total clean.clean))

all_lines : (lines : List Line) → AllByRecursion IsCleanLine lines → AreLines (text_of_lines lines)
unfolding text_of_lines
all_lines [] all = no_lines
all_lines (line ∷ lines) all =
    both_lines (ended (line_text line)) (text_of_lines lines) (one_line (line_text line) (profile_line_passed line all.0)) (all_lines lines all.1)

-- ---- the names in a profile

pub record IsCleanProfile (p : Profile) : Type 0 where
  pub counts : AllByRecursion (λ c. AllByRecursion (λ (step : Step). IsClean step.name) c.0) p.counts
  pub calls : AllByRecursion (λ c. AllByRecursion (λ (step : Step). IsClean step.name) c.0 × IsClean c.1) p.calls
  pub heads : AllByRecursion (λ h. IsClean h.0) p.heads

abbrev CleanWay : Way → Type 0
CleanWay = AllByRecursion (λ (step : Step). IsClean step.name)

last_clean : (s : Step) (way : Way) → IsClean s.name → CleanWay way → IsClean (last_step s way).name
last_clean s [] is all = is
last_clean s (t ∷ way) is all = last_clean t way all.0 all.1

targets_named : (p : Profile) (way : Way) → IsCleanProfile p → AllByRecursion (λ target. IsClean target.0) (targets_of p way)
targets_named p way clean =
    all_ordered (λ target. IsClean target.0) target_cmp _
    (all_mapped (λ c. CleanWay c.0 × IsClean c.1) (λ target. IsClean target.0) _ _ (λ c is. is.1) (all_filtered (λ c. CleanWay c.0 × IsClean c.1) _ p.calls clean.calls))

line_clean : (p : Profile) (way : Way) (step : Step) (kind : Kind) → IsCleanProfile p → IsClean step.name → IsCleanLine (line_by p way step kind)
line_clean p way step function clean is = is
line_clean p way step body clean is = targets_named p way clean
line_clean p way step call clean is = is

at_clean : (p : Profile) (way : Way) → IsCleanProfile p → SomeAll (λ (step : Step). IsClean step.name) way → IsCleanLine (line_at p way)
at_clean p [] clean some = absurd some
at_clean p (s ∷ way) clean some = line_clean p (s ∷ way) (last_step s way) (last_step s way).kind clean (last_clean s way some.0 some.1)

recorded_clean : (p : Profile) → IsCleanProfile p → AllByRecursion CleanWay (recorded p)
recorded_clean p clean =
    all_append CleanWay _ _
    (all_mapped (λ c. CleanWay c.0) CleanWay _ _ (λ c is. is) (all_filtered (λ c. CleanWay c.0) _ p.counts clean.counts))
    (all_mapped (λ c. CleanWay c.0 × IsClean c.1) CleanWay _ _ (λ c is. is.0) (all_filtered (λ c. CleanWay c.0 × IsClean c.1) _ p.calls clean.calls))

entered_clean : (p : Profile) → IsCleanProfile p → AllByRecursion CleanWay (entered p)
entered_clean p clean = all_mapped (λ h. IsClean h.0) CleanWay _ _ (λ h is. (is, tt)) (all_filtered (λ h. IsClean h.0) _ p.heads clean.heads)

written_clean : (p : Profile) → IsCleanProfile p → AllByRecursion (SomeAll (λ (step : Step). IsClean step.name)) (written p)
written_clean p clean =
    all_ordered (SomeAll (λ (step : Step). IsClean step.name)) (way_cmp (total_of_function p)) (flat_map beginnings (recorded p ++ entered p))
    (all_beginnings (λ (step : Step). IsClean step.name) (recorded p ++ entered p) (all_append CleanWay (recorded p) (entered p) (recorded_clean p clean) (entered_clean p clean)))

lines_clean : (p : Profile) → IsCleanProfile p → AllByRecursion IsCleanLine (lines_of p)
unfolding lines_of
lines_clean p clean = all_mapped (SomeAll (λ (step : Step). IsClean step.name)) IsCleanLine (line_at p) (written p) (λ way some. at_clean p way clean some) (written_clean p clean)

pub profile_lines : (p : Profile) → IsCleanProfile p → AreLines (profile_text p)
profile_lines p clean = all_lines (lines_of p) (lines_clean p clean)

-- ---- the names that a program tells

record IsCleanProgram (program : Program) : Type 0 where
  places : (address : ℕ) → IsCleanPlace (program.place address)
  entries : (address : ℕ) → IsCleanIfAny (program.entered address)

abbrev IsCleanIfWay : Option Way → Type 0
IsCleanIfWay None = ⊤
IsCleanIfWay (Some way) = CleanWay way

clean_if_way : (place : Place) → IsCleanPlace place → IsCleanIfWay (way_of_place place)
clean_if_way outside clean = tt
clean_if_way nameless clean = tt
clean_if_way no_line clean = tt
clean_if_way (at_way way) clean = clean

ways_clean : (program : Program) (addresses : List ℕ) → IsCleanProgram program → AllByRecursion CleanWay (ways_among addresses program)
ways_clean program addresses clean =
    all_ordered CleanWay (way_cmp (λ _. 0)) (filter_map (way_at program) addresses)
    (all_found CleanWay (way_at program) addresses (λ address. some (way_at program address) (clean_if_way (program.place address) (clean.places address))))
  where
    some : (o : Option Way) → IsCleanIfWay o → OfSome CleanWay o
    some None is = tt
    some (Some way) is = is

call_clean : (way : Option Way) (name : Option (List ℕ)) → IsCleanIfWay way → IsCleanIfAny name → OfSome (λ c. CleanWay c.0 × IsClean c.1) (call_by way name)
call_clean None name clean also = tt
call_clean (Some way) None clean also = tt
call_clean (Some way) (Some name) clean also = (clean, also)

calls_clean : (program : Program) (branch : ℕ × ℕ) → IsCleanProgram program → OfSome (λ c. CleanWay c.0 × IsClean c.1) (call_of program branch)
calls_clean program (from, to) clean =
    call_clean (way_at program from) (program.entered to) (clean_if_way (program.place from) (clean.places from)) (clean.entries to)

head_clean : (name : Option (List ℕ)) → IsCleanIfAny name → OfSome (λ (h : List ℕ × ℕ). IsClean h.0) (option_map (λ n. (n, 1)) name)
head_clean None clean = tt
head_clean (Some name) clean = clean

heads_clean : (program : Program) (branch : ℕ × ℕ) → IsCleanProgram program → OfSome (λ (h : List ℕ × ℕ). IsClean h.0) (entry_of program branch)
heads_clean program (from, to) clean = head_clean (program.entered to) (clean.entries to)

among_clean : (addresses : List ℕ) (program : Program) (sampled : Sampled) → IsCleanProgram program → IsCleanProfile (profile_among addresses program sampled)
among_clean addresses program sampled clean = record {
  counts = all_mapped CleanWay (λ c. CleanWay c.0) (λ way. (way, count_among addresses program sampled way)) (ways_among addresses program) (λ way is. is) (ways_clean program addresses clean);
  calls = all_found (λ c. CleanWay c.0 × IsClean c.1) (call_of program) sampled.branches (λ branch. calls_clean program branch clean);
  heads = all_found (λ (h : List ℕ × ℕ). IsClean h.0) (entry_of program) sampled.branches (λ branch. heads_clean program branch clean);
}

profile_clean : (program : Program) (sampled : Sampled) → IsCleanProgram program → IsCleanProfile (profile_of program sampled)
unfolding profile_of
profile_clean program sampled clean = among_clean all_addresses program sampled clean

program_clean : (binary : List ℕ) (base : Bool) → IsCleanProgram (program_of binary base)
program_clean binary base = record { places = places_clean binary base; entries = entries_clean binary }

pub profile_passed : (binary : List ℕ) (base : Bool) (sampled : Sampled) → AreLines (profile_text (profile_of (program_of binary base) sampled))
profile_passed binary base sampled =
    profile_lines (profile_of (program_of binary base) sampled) (profile_clean (program_of binary base) sampled (program_clean binary base))

-- ---- reports

-- A line of a report begins with `#`, and begins no function.
abbrev BeginsHash : List ℕ → Type 0
BeginsHash [] = ⊥
BeginsHash (b ∷ bytes) = b ≡ 35

record IsReportLine (line : List ℕ) : Type 0 where
  hash : BeginsHash line
  other : begins_function line ≡ false
  clean : HasNoLineFeed line

abbrev AreReported : List ℕ → Type 0
AreReported = AreLinesOf IsReportLine

branch_lines : (classes : Classes) (sampled : Sampled) → AreReported (branches_text classes sampled)
branch_lines classes sampled =
    both_lines (number_line (codes "branches") _) _ (one_line (codes "# branches " ++ decimal_text _) (record { hash = refl; other = refl; clean = number_clean _ }))
    (both_lines (number_line (codes "entries") _) _ (one_line (codes "# entries " ++ decimal_text _) (record { hash = refl; other = refl; clean = number_clean _ }))
    (both_lines (number_line (codes "inside") _) _ (one_line (codes "# inside " ++ decimal_text _) (record { hash = refl; other = refl; clean = number_clean _ }))
    (each_lines (lines_for classes sampled) reasons (λ reason. each_lines _ (unmapped_for classes sampled reason) (λ branch. unmapped reason branch _)))))
  where
    word_clean : (reason : Reason) → HasNoLineFeed (word_of reason)
    word_clean FromOutside = refl
    word_clean FromNameless = refl
    word_clean FromNoLine = refl
    word_clean ToOutside = refl
    word_clean ToNameless = refl

    unmapped : (reason : Reason) (branch : ℕ × ℕ) (times : ℕ) → AreReported (unmapped_line reason branch times)
    unmapped reason branch times =
        let line = codes "# unmapped " ++ (word_of reason ++ (codes " " ++ (hex_text branch.0 ++ (codes " " ++ (hex_text branch.1 ++ (codes " " ++ decimal_text times)))))) in
        same_lines (ended line) (unmapped_line reason branch times) (sym (simp append_assoc))
        (one_line line (record {
          hash = refl;
          other = refl;
          clean = both_clean (word_of reason) _ (word_clean reason) (both_clean (hex_text branch.0) _ (hex_clean branch.0) (both_clean (hex_text branch.1) _ (hex_clean branch.1) (number_clean times)));
        }))

range_lines : (classes : Classes) (sampled : Sampled) → AreReported (ranges_text classes sampled)
range_lines classes sampled =
    both_lines (number_line (codes "ranges ran") _) _ (one_line (codes "# ranges ran " ++ decimal_text _) (record { hash = refl; other = refl; clean = number_clean _ }))
    (both_lines (number_line (codes "ranges reversed") _) _ (one_line (codes "# ranges reversed " ++ decimal_text _) (record { hash = refl; other = refl; clean = number_clean _ }))
    (both_lines (number_line (codes "ranges outside") _) _ (one_line (codes "# ranges outside " ++ decimal_text _) (record { hash = refl; other = refl; clean = number_clean _ }))
    (one_line (codes "# ranges crossing " ++ decimal_text _) (record { hash = refl; other = refl; clean = number_clean _ }))))

unit_lines : (sampled : Sampled) → AreReported (units_text sampled)
unit_lines sampled =
    let line = codes "# units read " ++ (decimal_text sampled.units_read ++ (codes " passed " ++ decimal_text sampled.units_passed)) in
    same_lines (ended line) (units_text sampled) (sym (simp append_assoc))
    (one_line line (record { hash = refl; other = refl; clean = both_clean (decimal_text sampled.units_read) _ (number_clean sampled.units_read) (number_clean sampled.units_passed) }))

report_lines : (classes : Classes) (sampled : Sampled) → AreReported (report_text classes sampled)
unfolding report_text
report_lines classes sampled =
    both_lines (branches_text classes sampled) _ (branch_lines classes sampled) (both_lines (ranges_text classes sampled) _ (range_lines classes sampled) (unit_lines sampled))

pub report_passed : (classes : Classes) (sampled : Sampled) → AreLines (report_text classes sampled)
report_passed classes sampled = weaker (report_text classes sampled) (λ line is. record { other = is.other; clean = is.clean }) (report_lines classes sampled)

-- A profile text passes them over too.
pub begins_comment : (b : ℕ) (bytes : List ℕ) → b ≡ 35 → HasNoLineFeed (b ∷ bytes) → IsComment (b ∷ bytes)
unfolding is_passed
begins_comment b bytes hash clean = (clean, subst (λ (c : ℕ). (is_blank_line (c ∷ bytes) || starts_with nat_eq (behind_spaces (c ∷ bytes)) (codes "#")) ≡ true) (sym hash) (or_right (is_blank_line (35 ∷ bytes)) true refl))

comment : (line : List ℕ) → IsReportLine line → IsComment line
comment [] is = absurd is.hash
comment (b ∷ bytes) is = begins_comment b bytes is.hash is.clean

pub report_comments : (classes : Classes) (sampled : Sampled) → AreLinesOf IsComment (report_text classes sampled)
report_comments classes sampled = weaker (report_text classes sampled) comment (report_lines classes sampled)

-- ---- augmentations

augmentations_reported : (augmentations : ℕ) → AreReported (augmentations_line augmentations)
unfolding augmentations_line
augmentations_reported augmentations = one_line (codes "# augmentations " ++ decimal_text augmentations) (record { hash = refl; other = refl; clean = number_clean augmentations })

pub augmentations_passed : (augmentations : ℕ) → AreLines (augmentations_line augmentations)
augmentations_passed augmentations =
    weaker (augmentations_line augmentations) (λ line is. record { other = is.other; clean = is.clean }) (augmentations_reported augmentations)

pub augmentations_comments : (augmentations : ℕ) → AreLinesOf IsComment (augmentations_line augmentations)
augmentations_comments augmentations = weaker (augmentations_line augmentations) comment (augmentations_reported augmentations)
