-- What items and sums stand for, by names.
use Rattle.std.specs.Prelude.{◌≡◌, ◌<◌, ℕ, List, [], map, length, slice_index}
use Rattle.std.specs.List.{range_with_len}
use Rattle.key_types.specs.declared.key.Key.{Key}
use Rattle.profile_model.specs.Profile.{Profile}
use Rattle.profile_model.specs.Spelled.{What as ToldWhat, number_in}
use Rattle.profile_text.specs.Draft.{IsGivenWhat, what_told}
use Rattle.profile_text.specs.declared.item.What.{What}
use Rattle.profile_tree.specs.Said.{way_at}
use Rattle.profile_tree.specs.Steps.{name_at}
use Rattle.profile_merge.specs.Sums.{AreSumsOf, Sums, sum_in}

-- What sums say was counted: each key has its sum.
abbrev pub sums_told : List (List ℕ) → List Key → Sums → Profile
sums_told names keys sums = record {
  counts = map (λ id. (way_at names keys id, slice_index sums.counts id)) (range_with_len 0 (length keys));
  calls = map (λ call. (way_at names keys call.0.0.0, name_at names call.0.1.0, call.1)) sums.called;
  heads = map (λ id. (name_at names id, slice_index sums.heads id)) (range_with_len 0 (length sums.heads));
}

-- A head, a count or a target with its names, by numbers that were given.
pub record IsToldBy (names : List (List ℕ)) (keys : List Key) (told : ToldWhat) : Type 0 where
  pub what : What
  pub given : IsGivenWhat (length names) (length keys) what
  pub is : what_told names keys what ≡ told

-- The sums are the numbers of a profile, and there are no others.
pub record AreSumsIn (names : List (List ℕ)) (keys : List Key) (sums : Sums) (profile : Profile) : Type 0 where
  pub given : AreSumsOf (length names) (length keys) sums
  pub each : (what : What) → IsGivenWhat (length names) (length keys) what
      → sum_in sums what ≡ number_in profile (what_told names keys what)
  pub only : (told : ToldWhat) → 0 < number_in profile told → IsToldBy names keys told

-- Without sums.
abbrev pub no_sums : Sums
no_sums = record { heads = []; counts = []; called = [] }
