-- The definitions on worked values.
use Rattle.std.proofs.Common.{◌≡◌, List, [], ◌∷◌, refl, codes}
use Rattle.std.specs.Fmt.{digits}
use Rattle.profile_model.specs.Profile.{Profile}
use Rattle.profile_model.specs.Text.{text_of_lines}
use Rattle.profile_model.specs.Ways.{Way, to_function, to_body, to_call}
use Rattle.cold_model.specs.Cold.{cold_lines_of, lines_with}

-- A way in the function f.
abbrev in_f : Way → Way
in_f way = to_function (codes "f") ∷ way

-- What a binary knows: keys of f, some of them in calls that were inlined, and a key of g.
abbrev keys : List Way
keys =
    in_f (to_body 0 0 ∷ []) ∷ in_f (to_body 3 0 ∷ []) ∷ in_f (to_body 5 0 ∷ [])
    ∷ in_f (to_call 2 1 (codes "g") ∷ to_body 1 0 ∷ []) ∷ in_f (to_call 2 1 (codes "g") ∷ to_body 4 0 ∷ [])
    ∷ in_f (to_call 7 0 (codes "h") ∷ to_body 0 0 ∷ []) ∷ (to_function (codes "g") ∷ to_body 1 0 ∷ []) ∷ []

-- Two lines of f that ran, one of them in an inlined call, a target without a count, and a line that no key of the binary
-- has.
abbrev ran : Profile
ran = record {
  counts = (in_f (to_body 0 0 ∷ []), 2) ∷ (in_f (to_call 2 1 (codes "g") ∷ to_body 1 0 ∷ []), 3) ∷ (in_f (to_body 9 0 ∷ []), 1) ∷ [];
  calls = (in_f (to_body 3 0 ∷ []), codes "k", 4) ∷ [];
  heads = (codes "f", 1) ∷ [];
}

-- Each other line of f has the count 0, and a call of which no line ran the total 0. Nothing is written of g, which the
-- profile has not.
lines_that_never_ran :
    text_of_lines (cold_lines_of keys ran)
    ≡ codes "f:6:1\n 0: 2\n 3: 0 k:4\n 5: 0\n 9: 1\n 2.1: g:3\n  1: 3\n  4: 0\n 7: h:0\n  0: 0\n"
unfolding lines_with text_of_lines digits
lines_that_never_ran = refl

-- A function that was entered has its lines, and one that has only a count or only a target.
only_a_head :
    text_of_lines (cold_lines_of keys (record { counts = []; calls = []; heads = (codes "g", 3) ∷ [] }))
    ≡ codes "g:0:3\n 1: 0\n"
unfolding lines_with text_of_lines digits
only_a_head = refl

only_a_count :
    text_of_lines (cold_lines_of keys (record { counts = (in_f (to_body 9 0 ∷ []), 1) ∷ []; calls = []; heads = [] }))
    ≡ codes "f:1:0\n 0: 0\n 3: 0\n 5: 0\n 9: 1\n 2.1: g:0\n  1: 0\n  4: 0\n 7: h:0\n  0: 0\n"
unfolding lines_with text_of_lines digits
only_a_count = refl

only_a_target :
    text_of_lines (cold_lines_of keys (record {
      counts = [];
      calls = (to_function (codes "g") ∷ to_body 1 0 ∷ [], codes "f", 2) ∷ [];
      heads = [];
    }))
    ≡ codes "g:0:0\n 1: 0 f:2\n"
unfolding lines_with text_of_lines digits
only_a_target = refl

-- What a profile tells with count 0 stays: a line that no key of the binary has, in an inlined call too, and a function of
-- which no other line is told, which gets no further ones. A head and a target of 0 tell nothing.
abbrev told_before : Profile
told_before = record {
  counts =
      (in_f (to_body 0 0 ∷ []), 2) ∷ (in_f (to_body 3 0 ∷ []), 0) ∷ (in_f (to_body 8 1 ∷ []), 0)
      ∷ (in_f (to_call 2 1 (codes "g") ∷ to_body 6 0 ∷ []), 0) ∷ (to_function (codes "g") ∷ to_body 7 0 ∷ [], 0) ∷ [];
  calls = (in_f (to_body 8 1 ∷ []), codes "k", 0) ∷ [];
  heads = (codes "f", 1) ∷ (codes "g", 0) ∷ (codes "h", 0) ∷ [];
}

lines_of_count_0_stay :
    text_of_lines (cold_lines_of [] told_before)
    ≡ codes "f:2:1\n 0: 2\n 3: 0\n 8.1: 0\n 2.1: g:0\n  6: 0\ng:0:0\n 7: 0\n"
unfolding lines_with text_of_lines digits
lines_of_count_0_stay = refl

-- Behind those of one binary stand those of another.
lines_of_another_binary :
    text_of_lines (cold_lines_of keys told_before)
    ≡ codes "f:2:1\n 0: 2\n 3: 0\n 5: 0\n 8.1: 0\n 2.1: g:0\n  1: 0\n  4: 0\n  6: 0\n 7: h:0\n  0: 0\ng:0:0\n 7: 0\n"
unfolding lines_with text_of_lines digits
lines_of_another_binary = refl

-- A profile that tells no number above 0 and no count has no functions, and nothing is written.
nothing_of_nothing :
    text_of_lines (cold_lines_of keys (record {
      counts = [];
      calls = (in_f (to_body 3 0 ∷ []), codes "k", 0) ∷ [];
      heads = (codes "f", 0) ∷ [];
    }))
    ≡ []
unfolding lines_with text_of_lines digits
nothing_of_nothing = refl
