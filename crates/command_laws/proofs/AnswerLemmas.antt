-- What `check` answers where `build` may write the repair text.
use Rattle.std.proofs.Common.{◌≡◌, ℕ, ◌+◌, ◌≤◌, ◌^◌, Bool, List, [], ◌∷◌, ◌++◌, length, Option, None, Some, refl, arith, sym, ap, ◌∙◌, subst}
use Rattle.std.specs.Prelude.{is_some}
use Rattle.std.specs.List.{AllByRecursion, AllZip, flat_map}
use Rattle.std.proofs.lemmas.Bool.{le-ltb}
use Rattle.std.proofs.lemmas.List.{append_assoc}
use Rattle.std.proofs.lemmas.List.Elements.{recursion_from_All}
use Rattle.refusal.specs.declared.place.Place.{Place}
use Rattle.refusal.specs.Place.{size_item}
use Rattle.io_edge.specs.Inputs.{Store}
use Rattle.text_model.specs.Laws.{HasNoLineFeed, ended}
use Rattle.text_model.specs.Lines.{lines_of}
use Rattle.block_model.specs.Function.{Function}
use Rattle.block_model.specs.Text.{functions_of}
use Rattle.flow_model.specs.Sound.{IsSound}
use Rattle.sound_text.proofs.TextLemmas.{good_texts_are_sound}
use Rattle.profile_model.specs.Text.{profile_text}
use Rattle.report_model.specs.Report.{Sampled, report_text}
use Rattle.repair_model.specs.Checking as checking
use Rattle.repair_model.specs.Judging.{first_bad_of_repairs}
use Rattle.repair_model.specs.Laws.{IsToldOf, text_of_repairs}
use Rattle.repair_model.specs.Made.{AreRepairsOf}
use Rattle.repair_model.specs.Text.{repairs_of}
use Rattle.repair_model.proofs.BackLemmas.{written_repairs_are_read}
use Rattle.repair_model.proofs.WholeLemmas.{good_repairs_are_whole}
use Rattle.output_model.specs.declared.options.RepairOptions.{RepairOptions}
use Rattle.output_model.specs.Built.{count_of_way, edges_of}
use Rattle.output_model.specs.Output.{loading_of, sampled_by}
use Rattle.output_model.specs.Program.{program_of, way_at}
use Rattle.output_model.specs.Sampled.{classes_of, profile_of}
use Rattle.output_model.specs.Scaled.{IsBuiltBy, augmentations_line}
use Rattle.command_model.specs.Answer.{Answer, answer_of_command, unless_bad, with_file, writes}
use Rattle.command_model.specs.Command.{Command, build, check}
use Rattle.command_model.specs.Files.{IsOutput, file_at, first_bad_of_blocks, first_bad_of_repair_text, max_repair_bytes}
use Rattle.command_laws.specs.Laws.{BuiltIsAccepted}
use Rattle.command_laws.proofs.BlockLemmas.{IsField, good_of_any, names_are_fields}
use Rattle.command_laws.proofs.LineLemmas.{AreLines, asked_lines, augmentations_passed, both_lines, profile_passed, report_passed, where_asked}
use Rattle.command_laws.proofs.RepairLemmas.{all_readable, none_fails}

-- ---- the text that was written

-- A text is good as a repair text of these functions, and none of its lines fails.
record IsAccepted (funs : List Function) (text : List ℕ) : Type 0 where
  good : first_bad_of_repairs 2 funs text ≡ None
  passes : checking.failed_line funs (repairs_of funs text) ≡ None

pub clean_names : (funs : List Function) → AllByRecursion (λ (fun : Function). IsField fun.name) funs → AllByRecursion (λ (fun : Function). HasNoLineFeed fun.name) funs
clean_names [] named = tt
clean_names (fun ∷ funs) named = (named.0.clean, clean_names funs named.1)

-- Repairs behind a profile, and before lines that begin no function, are accepted.
accepted : (edges : Bool) (binary : List ℕ) (base : Bool) (sampled : Sampled) (blocks text repairs rest : List ℕ)
    → AreRepairsOf (way_at (program_of binary base)) (count_of_way (program_of binary base) sampled) (edges_of edges (program_of binary base) sampled) (functions_of blocks) repairs
    → AreLines rest → text ≡ profile_text (profile_of (program_of binary base) sampled) ++ (repairs ++ rest)
    → AllByRecursion (λ (fun : Function). IsSound fun.blocks fun.edges) (functions_of blocks) → length text ≤ 2 ^ 63
    → IsAccepted (functions_of blocks) text
accepted edges binary base sampled blocks text repairs rest repaired behind spelled sound small =
    let program = program_of binary base in
    let funs = functions_of blocks in
    let asked = edges_of edges program sampled in
    let named = names_are_fields blocks in
    let told = all_readable (way_at program) (count_of_way program sampled) asked funs repairs named repaired in
    let before = profile_passed binary base sampled in
    let joined : text ≡ flat_map ended before.lines ++ (text_of_repairs (is_some asked) funs told.repairs ++ flat_map ended behind.lines) =
    spelled
    ∙ ap (λ t. t ++ (repairs ++ rest)) before.joined
    ∙ ap (λ t. flat_map ended before.lines ++ (t ++ rest)) told.spelled
    ∙ ap (λ t. flat_map ended before.lines ++ (text_of_repairs (is_some asked) funs told.repairs ++ t)) behind.joined in
    let read = written_repairs_are_read 2 (is_some asked) funs told.repairs before.lines behind.lines text (clean_names funs named) told.are before.passed behind.passed joined in
    let whole = good_repairs_are_whole 2 funs text small read.0 in
    record {
      good = read.0;
      passes = ap (checking.failed_line funs) read.1
          ∙ none_fails (is_some asked) (length before.lines + 1) funs told.repairs sound told.repair (subst (AllZip IsToldOf funs) read.1 whole);
    }

-- What is built is accepted, with a number of augmentations behind it or none.
built_accepted : (options : RepairOptions) (binary : List ℕ) (base : Bool) (sampled : Sampled) (blocks text : List ℕ)
    → IsBuiltBy options (program_of binary base) sampled (functions_of blocks) text
    → AllByRecursion (λ (fun : Function). IsSound fun.blocks fun.edges) (functions_of blocks) → length text ≤ 2 ^ 63
    → IsAccepted (functions_of blocks) text
built_accepted options binary base sampled blocks text is sound small =
    let built = is.is_built in
    let profile = profile_text (profile_of (program_of binary base) sampled) in
    let report = report_text (classes_of (program_of binary base)) sampled in
    let line = where_asked options.scaled (augmentations_line is.augmentations) in
    accepted options.edges binary base sampled blocks text built.repairs (report ++ line) built.repaired
    (both_lines report line (report_passed (classes_of (program_of binary base)) sampled) (asked_lines options.scaled (augmentations_line is.augmentations) (augmentations_passed is.augmentations)))
    (is.spelled ∙ ap (λ t. t ++ line) built.spelled ∙ append_assoc profile (built.repairs ++ report) line ∙ ap (λ t. profile ++ t) (append_assoc built.repairs report line))
    sound small

-- ---- the answers

-- A command that writes has its files.
pub record HasFile (k : ℕ) (bytes : Option (List ℕ)) (judge : List ℕ → Option Place) (next : List ℕ → Answer) (answer : Answer) : Type 0 where
  pub file : List ℕ
  pub there : bytes ≡ Some file
  pub good : judge file ≡ None
  pub then : next file ≡ answer

went_on : (k : ℕ) (bad : Option Place) (next : Answer) (command : Command) (contents : List (List ℕ)) → unless_bad k bad next ≡ writes command contents
    → (bad ≡ None) × (next ≡ writes command contents)
went_on k None next command contents is = (refl, is)
went_on k (Some place) next command contents is = absurd cc

pub has_file : (k : ℕ) (bytes : Option (List ℕ)) (judge : List ℕ → Option Place) (next : List ℕ → Answer) (command : Command) (contents : List (List ℕ))
    → with_file k bytes judge next ≡ writes command contents → HasFile k bytes judge next (writes command contents)
has_file k None judge next command contents is = absurd cc
has_file k (Some file) judge next command contents is =
    let on = went_on k (judge file) (next file) command contents is in
    record { file = file; there = refl; good = on.0; then = on.1 }

pub same_contents : (command other : Command) (contents found : List (List ℕ)) → writes command found ≡ writes other contents → found ≡ contents
same_contents command other contents found is = cc

good_size : (text : List ℕ) → length text ≤ max_repair_bytes → size_item 2 max_repair_bytes text ≡ None
good_size text small = rw (le-ltb max_repair_bytes (length text) small) refl

good_text : (funs : List Function) (text : List ℕ) → length text ≤ max_repair_bytes → first_bad_of_repairs 2 funs text ≡ None → first_bad_of_repair_text 2 funs text ≡ None
unfolding first_bad_of_repair_text
good_text funs text small good = rw (good_size text small, good) refl

checks : (files : Store) (cfg out blocks text : List ℕ) → files cfg ≡ Some blocks → files out ≡ Some text → first_bad_of_blocks 1 blocks ≡ None
    → first_bad_of_repair_text 2 (functions_of blocks) text ≡ None → checking.failed_line (functions_of blocks) (repairs_of (functions_of blocks) text) ≡ None
    → answer_of_command files (check cfg out) ≡ writes (check cfg out) (blocks ∷ text ∷ [])
checks files cfg out blocks text there also good good_repairs passes = rw (there, good, also, good_repairs, passes) refl

pub built_is_accepted : BuiltIsAccepted
built_is_accepted files options bin perf cfg out contents text answers may small there =
    let command = build options bin perf cfg in
    let one = has_file 1 (files bin) _ _ command contents answers in
    let two = has_file 2 (files perf) _ _ command contents one.then in
    let three = has_file 3 (files cfg) (first_bad_of_blocks 3) _ command contents two.then in
    let are : one.file ∷ two.file ∷ three.file ∷ [] ≡ contents = same_contents command command contents (one.file ∷ two.file ∷ three.file ∷ []) three.then in
    let blocks = three.file in
    let built = subst (λ (found : List (List ℕ)). IsOutput command found text) (sym are) may in
    let good = good_of_any 3 1 blocks three.good in
    let sound = recursion_from_All (λ (fun : Function). IsSound fun.blocks fun.edges) (functions_of blocks) (good_texts_are_sound 1 blocks good.lines) in
    let is = built_accepted options.repairs one.file options.base (sampled_by (loading_of options.map one.file) one.file (lines_of two.file)) blocks text built sound (omega (arith, small)) in
    subst (λ (found : List (List ℕ)). answer_of_command files (check cfg out) ≡ writes (check cfg out) (file_at 2 found ∷ text ∷ [])) are
    (checks files cfg out blocks text three.there there good.all (good_text (functions_of blocks) text small is.good) is.passes)
