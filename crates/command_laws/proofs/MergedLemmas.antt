-- What `merge` answers where `profile` may write the text.
use Rattle.std.proofs.Common.{◌≡◌, ℕ, ◌≤◌, Bool, is_some, List, [], ◌∷◌, ◌++◌, length, None, Some, refl, sym, ap, ◌∙◌, subst}
use Rattle.std.specs.Prelude.{if◌then◌else◌}
use Rattle.std.proofs.lemmas.Bool.{le-ltb}
use Rattle.std.proofs.lemmas.List.{append_assoc}
use Rattle.refusal.specs.Place.{size_item}
use Rattle.io_edge.specs.Inputs.{Store}
use Rattle.text_model.specs.Lines.{lines_of}
use Rattle.profile_model.specs.Merge.{first_bad_of_summed, merge_text, merged}
use Rattle.profile_model.specs.Profile.{Profile}
use Rattle.profile_model.specs.Text.{profile_text}
use Rattle.block_model.specs.Text.{functions_of}
use Rattle.spelling_laws.proofs.BackLemmas.{merge_writes_again}
use Rattle.sample_model.specs.Judging.{first_bad_of_text}
use Rattle.spelling_laws.specs.Told.{CanBeWritten, IsComment, text_with}
use Rattle.way_laws.proofs.ToldLemmas.{profiles_can_be_told}
use Rattle.report_model.specs.Report.{Sampled, report_text}
use Rattle.output_model.specs.declared.options.RepairOptions.{RepairOptions}
use Rattle.output_model.specs.Built.{IsBuilt, count_of_way, edges_of}
use Rattle.output_model.specs.Output.{loading_of, output_text, sampled_by}
use Rattle.output_model.specs.Program.{Program, program_of, way_at}
use Rattle.output_model.specs.Sampled.{classes_of, profile_of}
use Rattle.output_model.specs.Scaled.{IsBuiltBy, augmentations_line}
use Rattle.command_model.specs.Answer.{answer_of_command, writes}
use Rattle.command_model.specs.Command.{build, merge, profile}
use Rattle.command_model.specs.Files.{file_at, first_bad_of_blocks, first_bad_of_part, max_profile_bytes}
use Rattle.command_model.specs.Options.{Options}
use Rattle.command_laws.specs.Merged.{BuiltIsMerged, ProfiledIsMerged}
use Rattle.command_laws.proofs.AnswerLemmas.{clean_names, has_file, same_contents}
use Rattle.command_laws.proofs.LineLemmas.{AreLinesOf, asked_lines, augmentations_comments, both_lines, report_comments}
use Rattle.command_laws.proofs.BlockLemmas.{names_are_fields}
use Rattle.command_laws.proofs.CommentLemmas.{repairs_comments}
use Rattle.command_laws.proofs.RepairLemmas.{all_readable}

good_size : (text : List ℕ) → length text ≤ max_profile_bytes → size_item 1 max_profile_bytes text ≡ None
good_size text small = rw (le-ltb max_profile_bytes (length text) small) refl

good_part : (text : List ℕ) → length text ≤ max_profile_bytes → first_bad_of_summed 1 1 (merged []) text ≡ None → first_bad_of_part 1 1 (merged []) text ≡ None
unfolding first_bad_of_part
good_part text small good = rw (good_size text small, good) refl

merges : (files : Store) (out text : List ℕ) → files out ≡ Some text → first_bad_of_part 1 1 (merged []) text ≡ None
    → answer_of_command files (merge ((1, out) ∷ [])) ≡ writes (merge ((1, out) ∷ [])) (text ∷ [])
merges files out text there good = rw (there, good) refl

-- A text of a profile that can be told, with comments behind it, is merged to the profile's text.
merged_again : (files : Store) (p : Profile) (behind out text again : List ℕ) → text ≡ profile_text p ++ behind → AreLinesOf IsComment behind → length text ≤ max_profile_bytes
    → CanBeWritten p → files out ≡ Some text
    → (answer_of_command files (merge ((1, out) ∷ [])) ≡ writes (merge ((1, out) ∷ [])) (text ∷ []))
    × (again ≡ merge_text ((1, text) ∷ []) → again ≡ profile_text p)
merged_again files p behind out text again wrote comments small can there =
    let is : text ≡ text_with p comments.lines = wrote ∙ ap (λ t. profile_text p ++ t) comments.joined in
    let law = merge_writes_again p comments.lines can comments.passed in (
      merges files out text there (good_part text small (subst (λ t. first_bad_of_summed 1 1 (merged []) t ≡ None) (sym is) law.0.0)),
      λ wrote_again. wrote_again ∙ ap (λ t. merge_text ((1, t) ∷ [])) is ∙ law.1,
    )

pub output_is : (program : Program) (sampled : Sampled) (text : List ℕ) → text ≡ output_text program sampled → text ≡ profile_text (profile_of program sampled) ++ report_text (classes_of program) sampled
unfolding output_text
output_is program sampled text wrote = wrote

abbrev pub program_in : Options → List (List ℕ) → Program
program_in options contents = program_of (file_at 0 contents) options.base

abbrev pub sampled_in : Options → List (List ℕ) → Sampled
sampled_in options contents = sampled_by (loading_of options.map (file_at 0 contents)) (file_at 0 contents) (lines_of (file_at 1 contents))

pub can_be_told : (options : Options) (contents : List (List ℕ)) → first_bad_of_text 2 (file_at 1 contents) ≡ None → CanBeWritten (profile_of (program_in options contents) (sampled_in options contents))
can_be_told options contents good = profiles_can_be_told options.map options.base (file_at 0 contents) (file_at 1 contents) 2 good

pub profiled_is_merged : ProfiledIsMerged
profiled_is_merged files options bin perf out contents text again answers may small there =
    let command = profile options bin perf in
    let one = has_file 1 (files bin) _ _ command contents answers in
    let two = has_file 2 (files perf) (first_bad_of_text 2) _ command contents one.then in
    let are : one.file ∷ two.file ∷ [] ≡ contents = same_contents command command contents (one.file ∷ two.file ∷ []) two.then in
    let good : first_bad_of_text 2 (file_at 1 contents) ≡ None = subst (λ (found : List (List ℕ)). first_bad_of_text 2 (file_at 1 found) ≡ None) are two.good in
    let program = program_in options contents in
    let sampled = sampled_in options contents in
    merged_again files (profile_of program sampled) (report_text (classes_of program) sampled) out text again (output_is program sampled text may)
    (report_comments (classes_of program) sampled) small (can_be_told options contents good) there

-- What `build` puts behind the profile.
behind_comments : (edges : Bool) (program : Program) (sampled : Sampled) (blocks text : List ℕ) (built : IsBuilt edges program sampled (functions_of blocks) text)
    → AreLinesOf IsComment (built.repairs ++ report_text (classes_of program) sampled)
behind_comments edges program sampled blocks text built =
    let funs = functions_of blocks in
    let named = names_are_fields blocks in
    let told = all_readable (way_at program) (count_of_way program sampled) (edges_of edges program sampled) funs built.repairs named built.repaired in
    both_lines built.repairs (report_text (classes_of program) sampled)
    (subst (AreLinesOf IsComment) (sym told.spelled) (repairs_comments (is_some (edges_of edges program sampled)) funs told.repairs (clean_names funs named)))
    (report_comments (classes_of program) sampled)

-- A text is that of a profile with comments behind it.
record HasBehind (p : Profile) (text : List ℕ) : Type 0 where
  behind : List ℕ
  wrote : text ≡ profile_text p ++ behind
  comments : AreLinesOf IsComment behind

built_behind : (options : RepairOptions) (program : Program) (sampled : Sampled) (blocks text : List ℕ)
    → IsBuiltBy options program sampled (functions_of blocks) text → HasBehind (profile_of program sampled) text
built_behind options program sampled blocks text is =
    let line = if options.scaled then augmentations_line is.augmentations else [] in
    let built = is.is_built in
    let rest = built.repairs ++ report_text (classes_of program) sampled in
    record {
      behind = rest ++ line;
      wrote = is.spelled ∙ ap (λ t. t ++ line) built.spelled ∙ append_assoc (profile_text (profile_of program sampled)) rest line;
      comments = both_lines rest line (behind_comments options.edges program sampled blocks is.built built)
          (asked_lines options.scaled (augmentations_line is.augmentations) (augmentations_comments is.augmentations));
    }

pub built_is_merged : BuiltIsMerged
built_is_merged files options bin perf cfg out contents text again answers may small there =
    let command = build options bin perf cfg in
    let one = has_file 1 (files bin) _ _ command contents answers in
    let two = has_file 2 (files perf) (first_bad_of_text 2) _ command contents one.then in
    let three = has_file 3 (files cfg) (first_bad_of_blocks 3) _ command contents two.then in
    let are : one.file ∷ two.file ∷ three.file ∷ [] ≡ contents = same_contents command command contents (one.file ∷ two.file ∷ three.file ∷ []) three.then in
    let good : first_bad_of_text 2 (file_at 1 contents) ≡ None = subst (λ (found : List (List ℕ)). first_bad_of_text 2 (file_at 1 found) ≡ None) are two.good in
    let program = program_in options contents in
    let sampled = sampled_in options contents in
    let has = built_behind options.repairs program sampled (file_at 2 contents) text may in
    merged_again files (profile_of program sampled) has.behind out text again has.wrote has.comments small (can_be_told options contents good) there
