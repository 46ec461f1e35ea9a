-- The text of a profile says what was counted, and a merge of it writes it again.
use Rattle.std.proofs.Common.{◌≡◌, ◌<◌, ◌^◌, ℕ, ◌+◌, List, [], ◌∷◌, None, ap, ◌∙◌, arith}
use Rattle.std.specs.List.{AllByRecursion}
use Rattle.std.specs.Option.{option_or}
use Rattle.std.proofs.lemmas.List.Elements.{All-from_recursion}
use Rattle.list_lemmas.proofs.Each.{all_append}
use Rattle.refusal.specs.Place.{first_bad}
use Rattle.refusal.proofs.PlaceLemmas.{first_bad-append}
use Rattle.merge_laws.proofs.GoodLemmas.{Fits, sums_good}
use Rattle.merge_laws.proofs.SumLemmas.{number_in-merged, number_in-one}
use Rattle.profile_laws.proofs.CountLemmas.{lines_are_by_counts}
use Rattle.profile_laws.proofs.OnceLemmas.{of_targets}
use Rattle.profile_laws.proofs.TotalLemmas.{written_ascends}
use Rattle.profile_model.specs.Judging.{first_bad_of_profile, items_from, kept_lines_of}
use Rattle.profile_model.specs.Merge.{first_bad_of_summed, merged, sum_items}
use Rattle.profile_model.specs.Profile.{Profile, Line, function_line, body_line, call_line, line_at, lines_of, written}
use Rattle.profile_model.specs.Spelled.{What, Number, head, count, target, number_in, numbers_from, numbers_of, numbers_on, profile_by, spelled}
use Rattle.profile_model.specs.Text.{text_of_lines}
use Rattle.profile_model.specs.Ways.{Way}
use Rattle.spelling_laws.specs.Lines.{CanBeTold, IsNamed}
use Rattle.spelling_laws.specs.Told.{CanBeWritten, IsComment, text_with, TextIsReadBack, MergeWritesAgain}
use Rattle.spelling_laws.proofs.TextLemmas.{kept_lines_are}
use Rattle.spelling_laws.proofs.PathLemmas.{lines}
use Rattle.spelling_laws.proofs.OrderLemmas.{at_first, written_lines}
use Rattle.spelling_laws.proofs.LineLemmas.{line_told, none_refused, numbers_are, numbers_told, text_lines}
use Rattle.spelling_laws.proofs.CountLemmas.{numbers_are_own}
use Rattle.spelling_laws.proofs.WayLemmas.{IsLineWay}

-- ---- the lines that are read

lines_told : (p : Profile) → CanBeWritten p → (ways : List Way) → AllByRecursion IsLineWay ways → AllByRecursion CanBeTold (lines p ways)
lines_told p can [] all = tt
lines_told p can (way ∷ ways) all = (line_told p way can all.0, lines_told p can ways all.1)

kept_are : (p : Profile) (comments : List (List ℕ)) → CanBeWritten p → AllByRecursion IsComment comments → kept_lines_of (text_with p comments) ≡ text_lines p 1 (written p)
unfolding lines_of
kept_are p comments can passed = kept_lines_are (lines p (written p)) comments (lines_told p can (written p) (written_lines p can)) passed

pub good : (p : Profile) (comments : List (List ℕ)) (file : ℕ) → CanBeWritten p → AllByRecursion IsComment comments → first_bad_of_profile file (text_with p comments) ≡ None
good p comments file can passed =
    ap (λ kept. first_bad (items_from file [] kept)) (kept_are p comments can passed) ∙ none_refused p can file 1 [] (written p) (at_first p can)

pub numbers_read : (p : Profile) (comments : List (List ℕ)) → CanBeWritten p → AllByRecursion IsComment comments → numbers_of (text_with p comments) ≡ numbers_told p 1 (written p)
numbers_read p comments can passed = ap (numbers_from []) (kept_are p comments can passed) ∙ numbers_are p can 1 [] (written p) (at_first p can)

pub own : (p : Profile) (comments : List (List ℕ)) → CanBeWritten p → AllByRecursion IsComment comments → (what : What) → number_in (spelled (text_with p comments)) what ≡ number_in p what
own p comments can passed what =
    ap (λ numbers. number_in (profile_by numbers) what) (numbers_read p comments can passed)
    ∙ numbers_are_own p what 1 can (written_lines p can) (written_ascends p)

pub text_is_read_back : TextIsReadBack
text_is_read_back p comments file can passed = (
  good p comments file can passed,
  record {
    keys = λ way. own p comments can passed (count way);
    targets = λ way name. own p comments can passed (target way name);
    heads = λ name. own p comments can passed (head name);
  },
)

-- ---- a merge of the text

targets_fit : (n : ℕ) (way : Way) (targets : List (List ℕ × ℕ)) → AllByRecursion IsNamed targets → AllByRecursion (λ (number : Number). number.times < 2 ^ 64) (of_targets n way targets)
targets_fit n way [] all = tt
targets_fit n way (t ∷ targets) all = (all.0.1, targets_fit n way targets all.1)

line_fits : (n : ℕ) (way : Way) (line : Line) → CanBeTold line → AllByRecursion (λ (number : Number). number.times < 2 ^ 64) (numbers_on n way line)
line_fits n way (function_line name total times) told = (told.1, tt)
line_fits n way (body_line depth offset disc times targets) told = (told.1, targets_fit n way targets told.2)
line_fits n way (call_line depth offset disc name total) told = tt

alone : (before : Profile) → ((what : What) → number_in before what ≡ 0) → (numbers : List Number) → AllByRecursion (λ (number : Number). number.times < 2 ^ 64) numbers → AllByRecursion (Fits 1 before) numbers
alone before none [] all = tt
alone before none (number ∷ numbers) all = (let zero_before = none number.what in let small = all.0 in omega (arith, zero_before, small), alone before none numbers all.1)

told_fit : (p : Profile) → CanBeWritten p → (n : ℕ) (ways : List Way) → AllByRecursion IsLineWay ways → AllByRecursion (λ (number : Number). number.times < 2 ^ 64) (numbers_told p n ways)
told_fit p can n [] all = tt
told_fit p can n (way ∷ ways) all =
    all_append (λ (number : Number). number.times < 2 ^ 64) (numbers_on n way (line_at p way)) (numbers_told p (n + 1) ways)
    (line_fits n way (line_at p way) (line_told p way can all.0)) (told_fit p can (n + 1) ways all.1)

good_alone : (p : Profile) (comments : List (List ℕ)) → CanBeWritten p → AllByRecursion IsComment comments → first_bad_of_summed 1 1 (merged []) (text_with p comments) ≡ None
good_alone p comments can passed =
    let text = text_with p comments in
    let sums = sum_items 1 1 (merged []) (numbers_of text) in
    first_bad-append (items_from 1 [] (kept_lines_of text)) sums
    ∙ ap (λ place. option_or place (first_bad sums)) (good p comments 1 can passed)
    ∙ ap (λ numbers. first_bad (sum_items 1 1 (merged []) numbers)) (numbers_read p comments can passed)
    ∙ sums_good 1 1 (merged []) (numbers_told p 1 (written p))
    (All-from_recursion (Fits 1 (merged [])) (numbers_told p 1 (written p)) (alone (merged []) (number_in-merged []) (numbers_told p 1 (written p)) (told_fit p can 1 (written p) (written_lines p can))))

merged_is : (p : Profile) (comments : List (List ℕ)) → CanBeWritten p → AllByRecursion IsComment comments → (what : What)
    → number_in (merged ((1, text_with p comments) ∷ [])) what ≡ number_in p what
merged_is p comments can passed what =
    let one = number_in-one (1, text_with p comments) [] what in
    let none = number_in-merged [] what in
    let same = own p comments can passed what in
    omega (arith, one, none, same)

pub merge_writes_again : MergeWritesAgain
merge_writes_again p comments can passed = (
  (good_alone p comments can passed, tt),
  ap text_of_lines (lines_are_by_counts (merged ((1, text_with p comments) ∷ [])) p (record {
    keys = λ way. merged_is p comments can passed (count way);
    targets = λ way name. merged_is p comments can passed (target way name);
    heads = λ name. merged_is p comments can passed (head name);
  })),
)
