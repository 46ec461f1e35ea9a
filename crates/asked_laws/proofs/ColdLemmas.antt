-- Lines that never ran ask for no place whose function stands nowhere in the profile.
use Rattle.std.proofs.Common.{◌≡◌, ℕ, Bool, cond, List, [], ◌∷◌, ◌++◌, filter, filter_map, Option, None, Some, refl, sym, ap, ◌∙◌, inl, inr}
use Rattle.std.specs.List.{cons_option}
use Rattle.cold_model.specs.Cold.{lines_with, stands_in, told_cold}
use Rattle.profile_model.specs.Profile.{Profile}
use Rattle.profile_model.specs.Ways.{Way}
use Rattle.output_model.specs.Cold.{cold_lines}
use Rattle.output_model.specs.Program.{Program, way_at, way_of_place}
use Rattle.output_model.specs.Sampled.{all_addresses}
use Rattle.asked_laws.specs.Alike.{ColdAlike, StandsNowhere}
use Rattle.asked_laws.specs.Laws.{ColdLinesAskNoMore}

-- a way more, if there is one
abbrev kept_with : (Way → Bool) → Option Way → List Way → List Way
kept_with test o ways = filter test (cons_option o ways)

one_kept : (test : Way → Bool) (o : Option Way) (ways others : List Way) → filter test ways ≡ filter test others → kept_with test o ways ≡ kept_with test o others
one_kept test None ways others same = same
one_kept test (Some way) ways others same = λ i. cond (test way) (way ∷ same i) (same i)

none_kept : (p : Profile) (o : Option Way) (ways : List Way) → StandsNowhere p o → kept_with (stands_in p) o ways ≡ filter (stands_in p) ways
none_kept p None ways none = refl
none_kept p (Some way) ways none = ap (λ b. cond b (way ∷ filter (stands_in p) ways) (filter (stands_in p) ways)) none

module _ (p : Profile) (program other : Program) (alike : ColdAlike p program other) where
  keys_alike : (addresses : List ℕ) → filter (stands_in p) (filter_map (way_at program) addresses) ≡ filter (stands_in p) (filter_map (way_at other) addresses)
  keys_alike [] = refl
  keys_alike (a ∷ addresses) =
      one_kept (stands_in p) (way_at program a) _ _ (keys_alike addresses)
      ∙ elim (alike a) as (λ _. kept_with (stands_in p) (way_at program a) (filter_map (way_at other) addresses) ≡ kept_with (stands_in p) (way_at other a) (filter_map (way_at other) addresses)) [
        | inl same ↦ ap (λ place. kept_with (stands_in p) (way_of_place place) (filter_map (way_at other) addresses)) same
        | inr nowhere ↦
            none_kept p (way_at program a) (filter_map (way_at other) addresses) nowhere.0
            ∙ sym (none_kept p (way_at other a) (filter_map (way_at other) addresses) nowhere.1)
      ]

pub cold_lines_ask_no_more : ColdLinesAskNoMore
unfolding cold_lines
cold_lines_ask_no_more p program other alike = λ i. lines_with (told_cold p ++ keys_alike p program other alike all_addresses i) p
