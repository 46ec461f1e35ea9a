-- The definitions on worked values.
use Rattle.std.proofs.Common.{◌≡◌, [], ◌∷◌, refl, codes, ◌^◌, ◌-◌}
use Rattle.profile_model.specs.Counts.{weighed}
use Rattle.profile_model.specs.Profile.{Profile, function_line, body_line, call_line, lines_of}
use Rattle.std.specs.Fmt.{digits}
use Rattle.profile_model.specs.Text.{profile_text, text_of_lines}
use Rattle.profile_model.specs.Ways.{Way, to_function, to_body, to_call}

-- A way in the function f0000.
abbrev in_f : Way → Way
in_f way = to_function (codes "f0000") ∷ way

-- A function with one inlined call, of which five branches were sampled.
abbrev five_branches : Profile
five_branches = record {
  counts =
      (in_f (to_body 3 0 ∷ []), 2) ∷ (in_f (to_call 2 1 (codes "g") ∷ to_body 1 0 ∷ []), 1)
      ∷ (in_f (to_body 2 2 ∷ []), 2) ∷ (in_f (to_body 0 0 ∷ []), 1) ∷ (in_f (to_body 1 0 ∷ []), 1) ∷ [];
  calls = (in_f (to_body 3 0 ∷ []), codes "f0000", 1) ∷ [];
  heads = (codes "f0000", 1) ∷ [];
}

five_branches_are_written :
    profile_text five_branches
    ≡ codes "f0000:7:1\n 0: 1\n 1: 1\n 2.2: 2\n 3: 2 f0000:1\n 2.1: g:1\n  1: 1\n"
unfolding lines_of text_of_lines digits
five_branches_are_written = refl

-- A function that was called from a place that no sampled range holds.
a_target_without_a_count :
    profile_text (record {
      counts = (in_f (to_body 3 0 ∷ []), 0) ∷ [];
      calls = (in_f (to_body 3 0 ∷ []), codes "f0000", 1) ∷ [];
      heads = (codes "f0000", 1) ∷ [];
    })
    ≡ codes "f0000:0:1\n 3: 0 f0000:1\n"
unfolding lines_of text_of_lines digits
a_target_without_a_count = refl

nothing_is_written_of_nothing :
    profile_text (record { counts = (in_f (to_body 3 0 ∷ []), 0) ∷ []; calls = []; heads = (codes "g", 0) ∷ [] }) ≡ []
unfolding lines_of text_of_lines digits
nothing_is_written_of_nothing = refl

-- Two inlined calls of one function from one line, which a discriminator tells apart, and no line of the caller's own.
two_calls_from_one_line :
    profile_text (record {
      counts =
          (to_function (codes "main") ∷ to_call 5 2 (codes "g") ∷ to_body 1 0 ∷ [], 4)
          ∷ (to_function (codes "main") ∷ to_call 5 0 (codes "g") ∷ to_body 1 0 ∷ [], 3) ∷ [];
      calls = [];
      heads = [];
    })
    ≡ codes "main:7:0\n 5: g:3\n  1: 3\n 5.2: g:4\n  1: 4\n"
unfolding lines_of text_of_lines digits
two_calls_from_one_line = refl

-- Functions by their totals, then by name, where a name stands before those that it begins; a head alone comes last.
functions_in_order :
    lines_of (record {
      counts =
          (to_function (codes "ab") ∷ to_body 0 0 ∷ [], 2) ∷ (to_function (codes "a") ∷ to_body 0 0 ∷ [], 2)
          ∷ (to_function (codes "b") ∷ to_body 0 0 ∷ [], 3) ∷ [];
      calls = [];
      heads = (codes "c", 5) ∷ (codes "c", 1) ∷ [];
    })
    ≡ function_line (codes "b") 3 0 ∷ body_line 1 0 0 3 []
    ∷ function_line (codes "a") 2 0 ∷ body_line 1 0 0 2 []
    ∷ function_line (codes "ab") 2 0 ∷ body_line 1 0 0 2 []
    ∷ function_line (codes "c") 0 6 ∷ []
unfolding lines_of
functions_in_order = refl

-- Body lines by offset first; targets by number, then by name; a total at its end.
lines_and_targets_in_order :
    lines_of (record {
      counts =
          (in_f (to_body 2 1 ∷ []), 2 ^ 64 - 1) ∷ (in_f (to_body 3 0 ∷ []), 1)
          ∷ (in_f (to_call 0 0 (codes "h") ∷ to_body 9 0 ∷ []), 1) ∷ (in_f (to_call 0 0 (codes "g") ∷ to_body 9 0 ∷ []), 1) ∷ [];
      calls =
          (in_f (to_body 2 1 ∷ []), codes "b", 1) ∷ (in_f (to_body 2 1 ∷ []), codes "a", 1)
          ∷ (in_f (to_body 2 1 ∷ []), codes "c", 1) ∷ (in_f (to_body 2 1 ∷ []), codes "c", 1)
          ∷ (in_f (to_body 2 1 ∷ []), codes "d", 0) ∷ [];
      heads = [];
    })
    ≡ function_line (codes "f0000") (2 ^ 64 - 1) 0
    ∷ body_line 1 2 1 (2 ^ 64 - 1) ((codes "c", 2) ∷ (codes "a", 1) ∷ (codes "b", 1) ∷ [])
    ∷ body_line 1 3 0 1 []
    ∷ call_line 1 0 0 (codes "g") 1 ∷ body_line 2 9 0 1 []
    ∷ call_line 1 0 0 (codes "h") 1 ∷ body_line 2 9 0 1 [] ∷ []
unfolding lines_of
lines_and_targets_in_order = refl

-- A call goes by its place, whatever the total of the function that it calls.
calls_go_by_place :
    profile_text (record {
      counts =
          (in_f (to_call 1 0 (codes "a") ∷ to_body 0 0 ∷ []), 1) ∷ (in_f (to_call 2 0 (codes "b") ∷ to_body 0 0 ∷ []), 1)
          ∷ (to_function (codes "b") ∷ to_body 0 0 ∷ [], 9) ∷ [];
      calls = [];
      heads = [];
    })
    ≡ codes "b:9:0\n 0: 9\nf0000:2:0\n 1: a:1\n  0: 1\n 2: b:1\n  0: 1\n"
unfolding lines_of text_of_lines digits
calls_go_by_place = refl

-- Code that was copied four times and ran three times.
hits_times_factor : weighed (λ a. 3) (λ a. 4) 7 ≡ 12
hits_times_factor = refl
