-- The words and files of `merge` and `summary` on worked values.
use Rattle.std.proofs.Common.{◌≡◌, ℕ, List, [], ◌∷◌, ◌++◌, Option, Some, None, refl}
use Rattle.std.specs.Prelude.{codes, if◌then◌else◌}
use Rattle.std.specs.Str.{bytes_eq}
use Rattle.refusal.specs.declared.kind.Kind.TheVariants.{BadLine, CountTooLarge}
use Rattle.io_edge.specs.Inputs.{Store}
use Rattle.text_model.specs.Fields.{fields_of}
use Rattle.text_model.specs.Lines.{lines_of}
use Rattle.text_model.specs.Numbers.{number_of}
use Rattle.profile_model.specs.Judging.{kept_lines, cause_of, items_from}
use Rattle.profile_model.specs.Merge.{sum_of, sum_items}
use Rattle.profile_model.specs.Reading.{number_within, named_of, location_of, targets_of, call_of, line_below, function_of, is_passed, line_of}
use Rattle.profile_model.specs.Spelled.{numbers_from, profile_by}
use Rattle.profile_model.specs.Standing.{can_stand, way_above, ways_of, tells_again, again_among}
use Rattle.command_model.specs.Answer.{answer_of}
use Rattle.command_model.specs.Answer.Answer.{refused, writes}
use Rattle.command_model.specs.Command.{command_of, merge, summary, weight_of}
use Rattle.command_model.specs.Files.{first_bad_of_part, first_bad_of_profile_text}

-- one to eight pairs of a weight and a file
words_of_merge : (command_of (codes "merge" ∷ codes "1" ∷ codes "F" ∷ []) ≡ Some (merge ((1, codes "F") ∷ [])))
    × (command_of (codes "merge" ∷ codes "1" ∷ codes "F" ∷ codes "065535" ∷ codes "--G" ∷ []) ≡ Some (merge ((1, codes "F") ∷ (65535, codes "--G") ∷ [])))
    × (command_of (codes "merge" ∷ []) ≡ None)
    × (command_of (codes "merge" ∷ codes "1" ∷ []) ≡ None)
    × (command_of (codes "merge" ∷ codes "1" ∷ codes "F" ∷ codes "2" ∷ []) ≡ None)
    × (command_of (codes "merge" ∷ codes "0" ∷ codes "F" ∷ []) ≡ None)
    × (command_of (codes "merge" ∷ codes "65536" ∷ codes "F" ∷ []) ≡ None)
    × (command_of (codes "merge" ∷ codes "F" ∷ codes "1" ∷ []) ≡ None)
    × (command_of (codes "merge" ∷ codes "--x" ∷ codes "1" ∷ codes "F" ∷ []) ≡ None)
unfolding command_of weight_of number_of
words_of_merge = (refl, refl, refl, refl, refl, refl, refl, refl, refl)

-- the words of four files, each once
abbrev four : List (List ℕ)
four = codes "1" ∷ codes "a" ∷ codes "2" ∷ codes "b" ∷ codes "3" ∷ codes "c" ∷ codes "4" ∷ codes "d" ∷ []

eight_and_no_more : (command_of (codes "merge" ∷ (four ++ four))
    ≡ Some (merge ((1, codes "a") ∷ (2, codes "b") ∷ (3, codes "c") ∷ (4, codes "d") ∷ (1, codes "a") ∷ (2, codes "b") ∷ (3, codes "c") ∷ (4, codes "d") ∷ [])))
    × (command_of (codes "merge" ∷ codes "1" ∷ codes "a" ∷ (four ++ four)) ≡ None)
unfolding command_of weight_of number_of
eight_and_no_more = (refl, refl)

words_of_summary : (command_of (codes "summary" ∷ codes "F" ∷ []) ≡ Some (summary (codes "F")))
    × (command_of (codes "summary" ∷ []) ≡ None)
    × (command_of (codes "summary" ∷ codes "F" ∷ codes "G" ∷ []) ≡ None)
    × (command_of (codes "summary" ∷ codes "--x" ∷ codes "F" ∷ []) ≡ None)
unfolding command_of
words_of_summary = (refl, refl, refl, refl)

-- half of what a number can be, and a text that is no profile
abbrev half : List ℕ
half = codes "a:0:9223372036854775808\n"

texts : Store
texts name =
    if bytes_eq name (codes "half") then Some half
    else (if bytes_eq name (codes "bad") then Some (codes "a:0:9223372036854775808\na\n") else None)

-- a file is judged behind the sums of those before it, and its lines by themselves come first
answers : (answer_of texts (codes "merge" ∷ codes "1" ∷ codes "half" ∷ []) ≡ writes (merge ((1, codes "half") ∷ [])) (half ∷ []))
    × (answer_of texts (codes "merge" ∷ codes "2" ∷ codes "half" ∷ []) ≡ refused (record { file = 1; at = 1; kind = CountTooLarge }))
    × (answer_of texts (codes "merge" ∷ codes "1" ∷ codes "half" ∷ codes "1" ∷ codes "half" ∷ []) ≡ refused (record { file = 2; at = 1; kind = CountTooLarge }))
    × (answer_of texts (codes "merge" ∷ codes "1" ∷ codes "half" ∷ codes "1" ∷ codes "bad" ∷ []) ≡ refused (record { file = 2; at = 2; kind = BadLine }))
    × (answer_of texts (codes "summary" ∷ codes "half" ∷ []) ≡ writes (summary (codes "half")) (half ∷ []))
    × (answer_of texts (codes "summary" ∷ codes "bad" ∷ []) ≡ refused (record { file = 1; at = 2; kind = BadLine }))
unfolding command_of weight_of texts first_bad_of_part first_bad_of_profile_text sum_items sum_of profile_by numbers_from is_passed fields_of lines_of kept_lines items_from cause_of can_stand way_above ways_of tells_again again_among number_of number_within named_of location_of targets_of call_of line_below function_of line_of
answers = (refl, refl, refl, refl, refl, refl)
