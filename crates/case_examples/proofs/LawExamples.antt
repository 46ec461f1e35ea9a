-- What laws speak of, on values: that they say something of them.
use Rattle.std.proofs.Common.{◌≡◌, ℕ, zero, suc, List, [], ◌∷◌, map, None, refl, inl, inr}
use Rattle.std.specs.Prelude.{codes}
use Rattle.profile_model.specs.Profile.{Profile, total_of}
use Rattle.profile_model.specs.Ways.{Way, to_body, to_call, to_function}
use Rattle.profile_laws.specs.Totals.{HasKeyWays, IsAbove, number_of, right_below}
use Rattle.binary_model.specs.Places.{Place, at_way, nameless, outside}
use Rattle.output_model.specs.Program.{Program}
use Rattle.asked_laws.specs.Alike.{ColdAlike}

-- ---- totals

function_way : List ℕ → Way
function_way name = to_function name ∷ []

line_way : List ℕ → ℕ → Way
line_way name offset = to_function name ∷ to_body offset 0 ∷ []

call_way : Way
call_way = to_function (codes "f") ∷ to_call 2 0 (codes "g") ∷ []

line_in_call : ℕ → Way
line_in_call offset = to_function (codes "f") ∷ to_call 2 0 (codes "g") ∷ to_body offset 0 ∷ []

-- Line 1 of `f`, lines 1 and 2 of `g` inlined in its line 2, and a line of `h`.
counted : Profile
counted = record {
  counts =
      (line_in_call 2, 5) ∷ (line_way (codes "f") 1, 3) ∷ (line_way (codes "h") 1, 7) ∷ (line_in_call 1, 4) ∷ [];
  calls = [];
  heads = [];
}

-- Right below a function are its own lines and calls, and no line of these.
below : (right_below counted (function_way (codes "f")) ≡ line_way (codes "f") 1 ∷ call_way ∷ [])
    × (right_below counted call_way ≡ line_in_call 1 ∷ line_in_call 2 ∷ [])
    × (right_below counted (line_in_call 1) ≡ [])
    × (map (number_of counted) (right_below counted (function_way (codes "f"))) ≡ 3 ∷ 9 ∷ [])
    × (map (number_of counted) (right_below counted call_way) ≡ 4 ∷ 5 ∷ [])
    × (total_of counted (function_way (codes "f")) ≡ 12)
    × (total_of counted call_way ≡ 9)
unfolding counted function_way line_way call_way line_in_call
below = (refl, refl, refl, refl, refl, refl, refl)

-- The law speaks of functions and of calls, of lines alone it does not.
totals_are_spoken_of : HasKeyWays counted
    × IsAbove (function_way (codes "f"))
    × IsAbove call_way
    × (IsAbove (line_in_call 1) → ⊥)
unfolding counted function_way line_way call_way line_in_call
totals_are_spoken_of = (
  ((refl, (refl, refl)), ((refl, refl), ((refl, refl), ((refl, (refl, refl)), tt)))),
  λ is. absurd cc,
  λ is. absurd cc,
  λ above. above refl,
)

-- ---- programs that are alike

-- Line 1 of `f` at address 0, and this place at address 1.
place_by : Place → ℕ → Place
place_by second zero = at_way (line_way (codes "f") 1)
place_by second (suc zero) = second
place_by second (suc (suc address)) = outside

program_with : Place → Program
program_with second = record {
  place = place_by second;
  function = λ address. None;
  entered = λ address. None;
  factor = λ address. 1;
}

-- Where `f` alone stands in a profile, lines of another function may be told or not.
alike : ColdAlike counted (program_with (at_way (line_way (codes "k") 1))) (program_with nameless)
unfolding counted function_way line_way call_way line_in_call place_by program_with
alike zero = inl refl
alike (suc zero) = inr (refl, tt)
alike (suc (suc address)) = inl refl

-- Lines of the one that stands there may not.
not_alike : ColdAlike counted (program_with (at_way (line_way (codes "f") 2))) (program_with nameless) → ⊥
unfolding counted function_way line_way call_way line_in_call place_by program_with
not_alike are =
    elim (are 1) [
      | inl same ↦ absurd cc
      | inr nowhere ↦ absurd cc
    ]
