-- What follows of sums by numbers for profiles by names.
use Rattle.std.specs.Prelude.{◌≡◌, ℕ, All, List, length, map}
use Rattle.std.specs.List.{AllByRecursion}
use Rattle.std.specs.Option.{option_map}
use Rattle.key_types.specs.Numbers.{IsNumbered}
use Rattle.key_types.specs.declared.key.Key.{Key}
use Rattle.refusal.specs.declared.kind.Kind.TheVariants.{CountTooLarge}
use Rattle.refusal.specs.declared.place.Place.{Place}
use Rattle.refusal.specs.Place.{first_bad}
use Rattle.profile_laws.specs.Counts.{CountTheSame}
use Rattle.profile_model.specs.Merge.{both, nothing, sum_items, weighed}
use Rattle.profile_model.specs.Profile.{Profile, lines_of}
use Rattle.profile_text.specs.Draft.{IsGivenItem, Kept, number_told}
use Rattle.profile_text.specs.Numbers.{counted}
use Rattle.profile_text.specs.declared.item.Item.{Item}
use Rattle.profile_tree.specs.Known.{HasNames}
use Rattle.profile_merge.specs.Sums.{AddsPart, StaySumsOf, Sums, first_over}
use Rattle.profile_merge.specs.Told.{AreSumsIn, no_sums, sums_told}

-- All names and keys have one number each, and the names of keys were given.
pub record AreNumbered (names : List (List ℕ)) (keys : List Key) : Type 0 where
  pub names_once : IsNumbered names
  pub keys_once : IsNumbered keys
  pub key_names : All (HasNames (length names)) keys

-- Before anything was added.
abbrev pub NothingIsSummed : Type 0
NothingIsSummed = (names : List (List ℕ)) (keys : List Key) → AreSumsIn names keys no_sums nothing

-- More names and keys change nothing.
abbrev pub SumsStayWithMore : Type 0
SumsStayWithMore =
    (names more : List (List ℕ)) (keys more_keys : List Key) (sums : Sums) (profile : Profile)
    → AreNumbered names keys → AreNumbered more more_keys → Kept names more → Kept keys more_keys
    → AreSumsIn names keys sums profile → AreSumsIn more more_keys sums profile

-- Sums that were raised by a part are those of both.
abbrev pub RaisedSumsCountBoth : Type 0
RaisedSumsCountBoth =
    (names : List (List ℕ)) (keys : List Key) (weight : ℕ) (items : List Item) (old new : Sums) (profile : Profile)
    → AreNumbered names keys → AllByRecursion (IsGivenItem (length names) (length keys)) items
    → AreSumsIn names keys old profile → AddsPart weight items old new → StaySumsOf items old new
    → AreSumsIn names keys new (both (weighed weight (counted names keys items)) profile)

-- The place of a number that is too large.
abbrev pub place_over : ℕ → ℕ → Place
place_over file line = record { file = file; at = line; kind = CountTooLarge }

-- The first number that is over stands at the first bad place.
abbrev pub FirstOverIsFirstBad : Type 0
FirstOverIsFirstBad =
    (names : List (List ℕ)) (keys : List Key) (file weight : ℕ) (items : List Item) (sums : Sums) (profile : Profile)
    → AllByRecursion (IsGivenItem (length names) (length keys)) items → AreSumsIn names keys sums profile
    → first_bad (sum_items file weight profile (map (number_told names keys) items))
    ≡ option_map (place_over file) (first_over weight sums items)

-- The lines of what sums say are those of the profile that they are of.
abbrev pub LinesAreOfSums : Type 0
LinesAreOfSums =
    (names : List (List ℕ)) (keys : List Key) (sums : Sums) (profile : Profile)
    → AreNumbered names keys → AreSumsIn names keys sums profile
    → lines_of (sums_told names keys sums) ≡ lines_of profile

-- Sums are those of any profile that counts the same.
abbrev pub SumsAreByCounts : Type 0
SumsAreByCounts =
    (names : List (List ℕ)) (keys : List Key) (sums : Sums) (p q : Profile)
    → CountTheSame p q → AreSumsIn names keys sums p → AreSumsIn names keys sums q
