-- The definition of a profile on a worked value.
use Rattle.std.proofs.Common.{◌≡◌, [], ◌∷◌, refl, codes}
use Rattle.std.specs.Fmt.{digits}
use Rattle.profile_model.specs.Profile.{lines_of}
use Rattle.profile_model.specs.Text.{profile_text, text_of_lines}
use Rattle.profile_model.specs.Ways.{to_function, to_body, to_call}

-- A function whose one inlined call has an inlined call alone.
a_call_without_lines_of_its_own :
    profile_text (record {
      counts = (to_function (codes "main") ∷ to_call 5 0 (codes "g") ∷ to_call 1 0 (codes "g") ∷ to_body 4 0 ∷ [], 3) ∷ [];
      calls = [];
      heads = [];
    })
    ≡ codes "main:3:0\n 5: g:3\n  1: g:3\n   4: 3\n"
unfolding lines_of text_of_lines digits
a_call_without_lines_of_its_own = refl
