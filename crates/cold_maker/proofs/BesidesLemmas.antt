-- The keys of which a text tells the count 0, by numbers and by ways.
use Rattle.std.proofs.Common.{◌≡◌, ℕ, ◌<◌, ◌==◌, Bool, true, false, cond, ◌++◌, List, [], ◌∷◌, map, filter, None, Some, refl, ap, ◌∙◌}
use Rattle.std.proofs.lemmas.List.{map-append}
use Rattle.std.specs.List.{AllByRecursion, cons_option, filter_map}
use Rattle.key_types.specs.declared.ids.KeyId.{KeyId}
use Rattle.key_types.specs.declared.key.Key.{Key}
use Rattle.cold_model.specs.Cold.{cold_lines_of, lines_with, stands_in, told_cold}
use Rattle.cold_model.proofs.ColdLemmas.{lines_with_are_by_counts}
use Rattle.profile_model.specs.Profile.{Profile}
use Rattle.profile_model.specs.Spelled.{as_count, profile_by}
use Rattle.profile_model.specs.Ways.{Way}
use Rattle.profile_laws.specs.Counts.{CountTheSame}
use Rattle.profile_text.specs.Draft.{IsGivenItem, IsGivenWhat, what_told}
use Rattle.profile_text.specs.Numbers.{counted}
use Rattle.profile_text.specs.declared.item.Item.{Item}
use Rattle.profile_text.specs.declared.item.What.{What}
use Rattle.profile_text.specs.declared.item.What.TheVariants.{Head, Count, Target}
use Rattle.profile_tree.proofs.StandingLemmas.{stands_alike}
use Rattle.profile_tree.specs.Said.{way_at, ways_said}
use Rattle.cold_maker.specs.Besides.{cold_by, cold_in}

-- they are keys
abbrev AreKeys : ℕ → List KeyId → Type 0
AreKeys keys ids = AllByRecursion (λ (key : KeyId). key.0 < keys) ids

pub told_given : (names keys : ℕ) (items : List Item) → AllByRecursion (IsGivenItem names keys) items → AreKeys keys (filter_map cold_in items)
told_given names keys [] given = tt
told_given names keys (item ∷ items) given = by item.what item.times given.0 (told_given names keys items given.1)
  where
    by_zero : (b : Bool) (k : KeyId) → k.0 < keys → AreKeys keys (filter_map cold_in items) → AreKeys keys (cons_option (cond b (Some k) None) (filter_map cold_in items))
    by_zero true k low rest = (low, rest)
    by_zero false k low rest = rest

    by : (v : What) (t : ℕ) → IsGivenWhat names keys v → AreKeys keys (filter_map cold_in items) → AreKeys keys (cons_option (cold_by v t) (filter_map cold_in items))
    by (Head n) t is rest = rest
    by (Count k) t is rest = by_zero (t == 0) k is rest
    by (Target k n) t is rest = rest

-- and theirs are the ways with count 0
pub told_are : (names : List (List ℕ)) (keys : List Key) (items : List Item) → ways_said names keys (filter_map cold_in items) ≡ told_cold (counted names keys items)
unfolding profile_by
told_are names keys [] = refl
told_are names keys (item ∷ items) = by item.what item.times (told_are names keys items)
  where
    ids : List KeyId
    ids = filter_map cold_in items

    counts : List (Way × ℕ)
    counts = (counted names keys items).counts

    by_zero : (b : Bool) (k : KeyId) (t : ℕ) → ways_said names keys ids ≡ map (λ (c : Way × ℕ). c.0) (filter (λ c. c.1 == 0) counts)
        → ways_said names keys (cons_option (cond b (Some k) None) ids)
        ≡ map (λ (c : Way × ℕ). c.0) (cond b ((way_at names keys k.0, t) ∷ filter (λ c. c.1 == 0) counts) (filter (λ c. c.1 == 0) counts))
    by_zero true k t rest = ap (λ ways. way_at names keys k.0 ∷ ways) rest
    by_zero false k t rest = rest

    by : (v : What) (t : ℕ) → ways_said names keys ids ≡ map (λ (c : Way × ℕ). c.0) (filter (λ c. c.1 == 0) counts)
        → ways_said names keys (cons_option (cold_by v t) ids)
        ≡ map (λ (c : Way × ℕ). c.0) (filter (λ c. c.1 == 0) (cons_option (as_count (what_told names keys v) t) counts))
    by (Head n) t rest = rest
    by (Count k) t rest = by_zero (t == 0) k t rest
    by (Target k n) t rest = rest

-- The ways of keys behind others.
pub ways_behind : (names : List (List ℕ)) (keys : List Key) (ids more all : List KeyId) → all ≡ ids ++ more → ways_said names keys all ≡ ways_said names keys ids ++ ways_said names keys more
ways_behind names keys ids more all is = ap (ways_said names keys) is ∙ map-append (λ (key : KeyId). way_at names keys key.0) ids more

-- Profiles that count the same have the same lines, where the keys that have lines besides are asked of the one.
pub cold_lines_are : (ways : List Way) (p q : Profile) → CountTheSame p q → lines_with (told_cold q ++ filter (stands_in p) ways) p ≡ cold_lines_of ways q
cold_lines_are ways p q same =
    lines_with_are_by_counts (told_cold q ++ filter (stands_in p) ways) p q same
    ∙ (λ i. lines_with (told_cold q ++ filter (λ way. stands_alike p q same way i) ways) q)
