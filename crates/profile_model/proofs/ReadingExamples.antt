-- The reading of profile texts on worked values.
use Rattle.std.proofs.Common.{◌≡◌, true, false, List, [], ◌∷◌, ◌++◌, Option, Some, None, refl, codes, map, ℕ, ◌^◌, ◌-◌}
use Rattle.std.specs.Fmt.{digits}
use Rattle.std.specs.List.{flat_map}
use Rattle.refusal.specs.declared.kind.Kind.{Kind}
use Rattle.refusal.specs.declared.kind.Kind.TheVariants.{BadLine, TooDeep, BadIndent, KeyTwice, CountTooLarge}
use Rattle.refusal.specs.declared.place.Place.{Place}
use Rattle.text_model.specs.Fields.{fields_of}
use Rattle.text_model.specs.Lines.{lines_of}
use Rattle.text_model.specs.Numbers.{number_of}
use Rattle.profile_model.specs.Judging.{first_bad_of_profile, kept_lines, cause_of, items_from}
use Rattle.profile_model.specs.Merge.{merge_text, merged, sum_of, sum_items, first_bad_of_summed, nothing}
use Rattle.profile_model.specs.Profile.{function_line, body_line, call_line, lines_of as profile_lines}
use Rattle.profile_model.specs.Reading.{number_within, named_of, location_of, targets_of, call_of, line_below, function_of, is_passed, line_of}
use Rattle.profile_model.specs.Spelled.{count, number_in, numbers_from, profile_by, spelled}
use Rattle.profile_model.specs.Standing.{can_stand, way_above, ways_of, tells_again, again_among}
use Rattle.profile_model.specs.Summary.{summary_text, summary_by, least_hot}
use Rattle.profile_model.specs.Text.{indent, text_of_lines}
use Rattle.profile_model.specs.Ways.{to_function, to_body, to_call}

function_is_read : line_of (codes "f0000:7:1") ≡ Some (function_line (codes "f0000") 7 1)
unfolding number_of number_within function_of line_of
function_is_read = refl

targets_are_read : line_of (codes "  3.02: 07 f:1 g:2") ≡ Some (body_line 2 3 2 7 ((codes "f", 1) ∷ (codes "g", 2) ∷ []))
unfolding number_of number_within named_of location_of targets_of call_of line_below line_of
targets_are_read = refl

call_is_read : line_of (codes " 3: g:1") ≡ Some (call_line 1 3 0 (codes "g") 1)
unfolding number_of number_within named_of location_of targets_of call_of line_below line_of
call_is_read = refl

-- What `profile` wrote of the demo's first five branches, with the report behind it.
abbrev five_branches : List ℕ
five_branches =
    codes "f0000:7:1\n 0: 1\n 1: 1\n 2.2: 2\n 3: 2 f0000:1\n 2.1: g:1\n  1: 1\n# branches 5\n# inside 4\n"

it_is_good : first_bad_of_profile 1 five_branches ≡ None
unfolding is_passed fields_of lines_of kept_lines items_from cause_of can_stand way_above ways_of tells_again again_among number_of number_within named_of location_of targets_of call_of line_below function_of line_of
it_is_good = refl

its_targets :
    (spelled five_branches).calls ≡ (to_function (codes "f0000") ∷ to_body 3 0 ∷ [], codes "f0000", 1) ∷ []
unfolding profile_by numbers_from is_passed fields_of lines_of kept_lines way_above number_of number_within named_of location_of targets_of call_of line_below function_of line_of
its_targets = refl

an_inlined_key :
    number_in (spelled five_branches) (count (to_function (codes "f0000") ∷ to_call 2 1 (codes "g") ∷ to_body 1 0 ∷ [])) ≡ 1
unfolding profile_by numbers_from is_passed fields_of lines_of kept_lines way_above number_of number_within named_of location_of targets_of call_of line_below function_of line_of
an_inlined_key = refl

-- Once and twice are three times.
weights_add_up :
    merge_text ((1, five_branches) ∷ (2, five_branches) ∷ [])
    ≡ codes "f0000:21:3\n 0: 3\n 1: 3\n 2.2: 6\n 3: 6 f0000:3\n 2.1: g:3\n  1: 3\n"
unfolding sum_of profile_lines text_of_lines digits profile_by numbers_from is_passed fields_of lines_of kept_lines way_above number_of number_within named_of location_of targets_of call_of line_below function_of line_of
weights_add_up = refl

its_summary :
    summary_text (spelled five_branches)
    ≡ codes "functions 1\nlines 5\ntotal 7\nmax 2\ncutoff 10000 least 2 lines 2\ncutoff 100000 least 2 lines 2\ncutoff 200000 least 2 lines 2\ncutoff 300000 least 2 lines 2\ncutoff 400000 least 2 lines 2\ncutoff 500000 least 2 lines 2\ncutoff 600000 least 1 lines 5\ncutoff 700000 least 1 lines 5\ncutoff 800000 least 1 lines 5\ncutoff 900000 least 1 lines 5\ncutoff 950000 least 1 lines 5\ncutoff 990000 least 1 lines 5\ncutoff 999000 least 1 lines 5\ncutoff 999900 least 1 lines 5\ncutoff 999990 least 1 lines 5\ncutoff 999999 least 1 lines 5\n"
unfolding summary_by profile_lines digits profile_by numbers_from is_passed fields_of lines_of kept_lines way_above number_of number_within named_of location_of targets_of call_of line_below function_of line_of
its_summary = refl

-- ---- refusals

-- A place in file 1.
at : ℕ → Kind → Option Place
at line kind = Some (record { file = 1; at = line; kind = kind })

-- `.0` tells of the same key.
a_key_twice : first_bad_of_profile 1 (codes "a:1:0\n 1: 1\n 1.0: 1\n") ≡ at 3 KeyTwice
unfolding at is_passed fields_of lines_of kept_lines items_from cause_of can_stand way_above ways_of tells_again again_among number_of number_within named_of location_of targets_of call_of line_below function_of line_of
a_key_twice = refl

an_indentation_that_skips : first_bad_of_profile 1 (codes "a:1:0\n  1: 1\n") ≡ at 2 BadIndent
unfolding at is_passed fields_of lines_of kept_lines items_from cause_of can_stand way_above ways_of tells_again again_among number_of number_within named_of location_of targets_of call_of line_below function_of line_of
an_indentation_that_skips = refl

-- A body line and a call of one location are not the same thing, nor are calls of two functions; and a location may
-- stand again below another call and in another function.
locations_apart :
    first_bad_of_profile 1 (codes "a:1:0\n 1: 1\n 1: b:1\n  1: 1\n 1: c:1\n  1: 1\n 1.1: b:1\nb:1:0\n 1: 1\n") ≡ None
unfolding at is_passed fields_of lines_of kept_lines items_from cause_of can_stand way_above ways_of tells_again again_among number_of number_within named_of location_of targets_of call_of line_below function_of line_of
locations_apart = refl

a_call_twice : first_bad_of_profile 1 (codes "a:1:0\n 1: b:1\n 2: 1\n 1.0: b:1\n") ≡ at 4 KeyTwice
unfolding at is_passed fields_of lines_of kept_lines items_from cause_of can_stand way_above ways_of tells_again again_among number_of number_within named_of location_of targets_of call_of line_below function_of line_of
a_call_twice = refl

a_function_twice : first_bad_of_profile 1 (codes "a:1:0\nb:1:0\na:0:0\n") ≡ at 3 KeyTwice
unfolding at is_passed fields_of lines_of kept_lines items_from cause_of can_stand way_above ways_of tells_again again_among number_of number_within named_of location_of targets_of call_of line_below function_of line_of
a_function_twice = refl

a_target_twice : first_bad_of_profile 1 (codes "a:1:0\n 1: 1 b:1 a:1 b:0\n") ≡ at 2 KeyTwice
unfolding at is_passed fields_of lines_of kept_lines items_from cause_of can_stand way_above ways_of tells_again again_among number_of number_within named_of location_of targets_of call_of line_below function_of line_of
a_target_twice = refl

-- A body line encloses nothing, and closes a call that is as deep.
a_body_line_closes_a_call : first_bad_of_profile 1 (codes "a:1:0\n 1: b:1\n 2: 1\n  1: 1\n") ≡ at 4 BadIndent
unfolding at is_passed fields_of lines_of kept_lines items_from cause_of can_stand way_above ways_of tells_again again_among number_of number_within named_of location_of targets_of call_of line_below function_of line_of
a_body_line_closes_a_call = refl

-- Lines that are passed over close nothing.
comments_close_nothing : first_bad_of_profile 1 (codes "# all\na:1:0\n 1: b:1\n\n \t\n# b\n # b\n  1: 1\n") ≡ None
unfolding at is_passed fields_of lines_of kept_lines items_from cause_of can_stand way_above ways_of tells_again again_among number_of number_within named_of location_of targets_of call_of line_below function_of line_of
comments_close_nothing = refl

nothing_is_open_at_first : first_bad_of_profile 1 (codes "\n 1: 1\n") ≡ at 2 BadIndent
unfolding at is_passed fields_of lines_of kept_lines items_from cause_of can_stand way_above ways_of tells_again again_among number_of number_within named_of location_of targets_of call_of line_below function_of line_of
nothing_is_open_at_first = refl

-- The form comes first: a bad line is bad however deep it stands.
the_form_comes_first : first_bad_of_profile 1 (codes "a:1:0\n   1: 1 \n   1: 1\n") ≡ at 2 BadLine
unfolding at is_passed fields_of lines_of kept_lines items_from cause_of can_stand way_above ways_of tells_again again_among number_of number_within named_of location_of targets_of call_of line_below function_of line_of
the_form_comes_first = refl

-- How deep comes before below what.
too_deep : first_bad_of_profile 1 (codes "a:1:0\n" ++ indent 257 ++ codes "1: 1\n") ≡ at 2 TooDeep
unfolding at is_passed fields_of lines_of kept_lines items_from cause_of can_stand way_above ways_of tells_again again_among number_of number_within named_of location_of targets_of call_of line_below function_of line_of
too_deep = refl

as_deep_as_can_be : first_bad_of_profile 1 (codes "a:1:0\n" ++ indent 256 ++ codes "1: 1\n") ≡ at 2 BadIndent
unfolding at is_passed fields_of lines_of kept_lines items_from cause_of can_stand way_above ways_of tells_again again_among number_of number_within named_of location_of targets_of call_of line_below function_of line_of
as_deep_as_can_be = refl

-- Lines in any order, and wrong totals.
any_order :
    (spelled (codes "b:9:1\n 2: a:0\n  1: 3\n 1: 1\na:0:2\n")).counts
    ≡ (to_function (codes "b") ∷ to_call 2 0 (codes "a") ∷ to_body 1 0 ∷ [], 3) ∷ (to_function (codes "b") ∷ to_body 1 0 ∷ [], 1) ∷ []
unfolding profile_by numbers_from is_passed fields_of lines_of kept_lines way_above number_of number_within named_of location_of targets_of call_of line_below function_of line_of
any_order = refl

-- ---- the form of lines

at_the_ends_of_numbers :
    line_of (codes " 65535.4294967295: 18446744073709551615")
    ≡ Some (body_line 1 65535 (2 ^ 32 - 1) (2 ^ 64 - 1) [])
unfolding number_of number_within named_of location_of targets_of call_of line_below function_of line_of
at_the_ends_of_numbers = refl

past_the_ends_of_numbers :
    map line_of (codes " 65536: 1" ∷ codes " 1.4294967296: 1" ∷ codes " 1: 18446744073709551616" ∷ codes "a:18446744073709551616:0" ∷ codes " 1: 1 a:18446744073709551616" ∷ [])
    ≡ None ∷ None ∷ None ∷ None ∷ None ∷ []
unfolding number_of number_within named_of location_of targets_of call_of line_below function_of line_of
past_the_ends_of_numbers = refl

lines_without_form :
    map line_of (codes "a:1" ∷ codes "a:1:1:1" ∷ codes "1:1:1" ∷ codes "a: 1:1" ∷ codes " 1:1" ∷ codes " 1:  1" ∷ codes " 1: 1 " ∷ codes " 1: 1  a:1" ∷ codes " 1 : 1" ∷ codes " .1: 1" ∷ codes " 1.: 1" ∷ codes " 1.1.1: 1" ∷ codes " 1: a:1 b:1" ∷ codes " 1: 1 a" ∷ codes " 1: 1\t" ∷ codes " 1: 1\r" ∷ codes "\ta:1:1" ∷ codes " 1: !a:1" ∷ codes " -1: 1" ∷ codes " 1:" ∷ codes " " ∷ [])
    ≡ None ∷ None ∷ None ∷ None ∷ None ∷ None ∷ None ∷ None ∷ None ∷ None ∷ None ∷ None ∷ None ∷ None ∷ None ∷ None ∷ None ∷ None ∷ None ∷ None ∷ None ∷ []
unfolding number_of number_within named_of location_of targets_of call_of line_below function_of line_of
lines_without_form = refl

lines_passed_over : map is_passed (codes "" ∷ codes " \t" ∷ codes "#" ∷ codes "  # a" ∷ codes "\t# a" ∷ codes "a:1:1" ∷ []) ≡ true ∷ true ∷ true ∷ true ∷ false ∷ false ∷ []
unfolding is_passed fields_of
lines_passed_over = refl

-- ---- sums

half : List ℕ
half = codes "a:0:9223372036854775808\n"

half_fits : first_bad_of_summed 1 1 nothing half ≡ None
unfolding half sum_items sum_of profile_by numbers_from is_passed fields_of lines_of kept_lines items_from cause_of can_stand way_above ways_of tells_again again_among number_of number_within named_of location_of targets_of call_of line_below function_of line_of
half_fits = refl

twice_half_does_not : first_bad_of_summed 1 2 nothing half ≡ at 1 CountTooLarge
unfolding half at sum_items sum_of profile_by numbers_from is_passed fields_of lines_of kept_lines items_from cause_of can_stand way_above ways_of tells_again again_among number_of number_within named_of location_of targets_of call_of line_below function_of line_of
twice_half_does_not = refl

nor_does_a_second_one :
    first_bad_of_summed 2 1 (merged ((1, half) ∷ [])) half ≡ Some (record { file = 2; at = 1; kind = CountTooLarge })
unfolding half at sum_items sum_of profile_by numbers_from is_passed fields_of lines_of kept_lines items_from cause_of can_stand way_above ways_of tells_again again_among number_of number_within named_of location_of targets_of call_of line_below function_of line_of
nor_does_a_second_one = refl

-- What a line is by itself comes before all sums.
the_lines_come_first : first_bad_of_summed 1 2 nothing (half ++ codes "a\n") ≡ at 2 BadLine
unfolding half at sum_items sum_of profile_by numbers_from is_passed fields_of lines_of kept_lines items_from cause_of can_stand way_above ways_of tells_again again_among number_of number_within named_of location_of targets_of call_of line_below function_of line_of
the_lines_come_first = refl

-- Lines of zeros alone vanish.
zeros_vanish : merge_text ((7, codes "a:5:0\n 1: 0 b:0\n 2: c:1\n  1: 0\n") ∷ []) ≡ []
unfolding sum_of profile_lines text_of_lines digits profile_by numbers_from is_passed fields_of lines_of kept_lines way_above number_of number_within named_of location_of targets_of call_of line_below function_of line_of
zeros_vanish = refl

nothing_is_hot :
    summary_text (spelled (codes "a:5:1\n 1: 0\n"))
    ≡ codes "functions 1\nlines 0\ntotal 0\nmax 0\n" ++ flat_map (λ cutoff. codes "cutoff " ++ cutoff ++ codes " least 0 lines 0\n") (codes "10000" ∷ codes "100000" ∷ codes "200000" ∷ codes "300000" ∷ codes "400000" ∷ codes "500000" ∷ codes "600000" ∷ codes "700000" ∷ codes "800000" ∷ codes "900000" ∷ codes "950000" ∷ codes "990000" ∷ codes "999000" ∷ codes "999900" ∷ codes "999990" ∷ codes "999999" ∷ [])
unfolding summary_by profile_lines digits profile_by numbers_from is_passed fields_of lines_of kept_lines way_above number_of number_within named_of location_of targets_of call_of line_below function_of line_of
nothing_is_hot = refl

-- Nine of ten make up 900,000 millionths, and no more.
at_a_cutoff : map (least_hot (1 ∷ 9 ∷ [])) (900000 ∷ 900001 ∷ []) ≡ 9 ∷ 1 ∷ []
at_a_cutoff = refl

-- Below what comes before what is told again.
indent_before_twice : first_bad_of_profile 1 (codes "a:1:0\n  1: 1 b:1 b:1\n") ≡ at 2 BadIndent
unfolding at is_passed fields_of lines_of kept_lines items_from cause_of can_stand way_above ways_of tells_again again_among number_of number_within named_of location_of targets_of call_of line_below function_of line_of
indent_before_twice = refl
