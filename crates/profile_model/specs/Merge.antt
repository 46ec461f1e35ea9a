-- Profiles, summed with weights.
use Rattle.std.specs.Prelude.{ℕ, ◌+◌, ◌*◌, ◌^◌, nat_le, Bool, List, [], ◌∷◌, ◌++◌, map, Option}
use Rattle.refusal.specs.declared.kind.Kind.TheVariants.{CountTooLarge}
use Rattle.refusal.specs.declared.place.Place.{Place}
use Rattle.refusal.specs.Place.{fails_at, first_bad}
use Rattle.profile_model.specs.Judging.{items_from, kept_lines_of}
use Rattle.profile_model.specs.Profile.{Profile}
use Rattle.profile_model.specs.Spelled.{Number, number_in, numbers_of, spelled}
use Rattle.profile_model.specs.Text.{profile_text}

-- Nothing was counted.
abbrev pub nothing : Profile
nothing = record { counts = []; calls = []; heads = [] }

-- What was counted, each number so many times.
abbrev pub weighed : ℕ → Profile → Profile
weighed weight p = record {
  counts = map (λ c. (c.0, weight * c.1)) p.counts;
  calls = map (λ c. (c.0, c.1, weight * c.2)) p.calls;
  heads = map (λ h. (h.0, weight * h.1)) p.heads;
}

-- What was counted in either.
abbrev pub both : Profile → Profile → Profile
both p q = record { counts = p.counts ++ q.counts; calls = p.calls ++ q.calls; heads = p.heads ++ q.heads }

-- The sum of profiles, each with its weight.
unfoldable pub sum_of : List (ℕ × Profile) → Profile
sum_of [] = nothing
sum_of (part ∷ parts) = both (weighed part.0 part.1) (sum_of parts)

-- The merge of texts, each with its weight: for each head, key and target the sum of weight times number.
abbrev pub merged : List (ℕ × List ℕ) → Profile
merged texts = sum_of (map (λ text. (text.0, spelled text.1)) texts)

-- What is written of a merge.
abbrev pub merge_text : List (ℕ × List ℕ) → List ℕ
merge_text texts = profile_text (merged texts)

-- A number with a weight does not fit 64 bits together with what was summed before.
abbrev pub is_too_large : ℕ → Profile → Number → Bool
is_too_large weight before number = nat_le (2 ^ 64) (weight * number.times + number_in before number.what)

-- Numbers as items, in order, behind what was summed before.
unfoldable pub sum_items : ℕ → ℕ → Profile → List Number → List (Option Place)
sum_items file weight before numbers =
    map (λ number. fails_at (is_too_large weight before number)
    (record { file = file; at = number.line; kind = CountTooLarge })) numbers

-- The first bad place of a text that is summed, its size aside: first the lines by themselves, then their numbers.
-- Why: A number that stands still would make a merge depend on its order, so a sum that does not fit is refused. It is
-- judged behind all other causes of its file and in front of the next file: a text that is bad by itself is bad in
-- every merge, at the same place.
abbrev pub first_bad_of_summed : ℕ → ℕ → Profile → List ℕ → Option Place
first_bad_of_summed file weight before text =
    first_bad (items_from file [] (kept_lines_of text) ++ sum_items file weight before (numbers_of text))
