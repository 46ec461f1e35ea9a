-- That the order of what is merged is no matter.
use Rattle.std.specs.Prelude.{◌≡◌, ℕ, ◌+◌, ⊤, List, [], ◌∷◌, ◌++◌, length, None}
use Rattle.std.specs.List.Sorted.{IsPermutation}
use Rattle.profile_model.specs.Merge.{first_bad_of_summed, merge_text, merged}

-- These texts, each with its weight, are good one behind the other, behind others that were summed.
abbrev pub AreGoodBehind : List (ℕ × List ℕ) → List (ℕ × List ℕ) → Type 0
AreGoodBehind before [] = ⊤
AreGoodBehind before (text ∷ rest) =
    (first_bad_of_summed (length before + 1) text.0 (merged before) text.1 ≡ None)
    × AreGoodBehind (before ++ text ∷ []) rest

abbrev pub AreGoodTexts : List (ℕ × List ℕ) → Type 0
AreGoodTexts texts = AreGoodBehind [] texts

-- Good texts are good in any order, and their merge is the same text.
abbrev pub OrderIsNoMatter : Type 0
OrderIsNoMatter =
    (texts others : List (ℕ × List ℕ)) → IsPermutation texts others → AreGoodTexts texts
    → AreGoodTexts others × (merge_text others ≡ merge_text texts)
