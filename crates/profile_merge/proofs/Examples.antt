-- The definitions, computed on worked values.
use Rattle.std.proofs.Common.{◌≡◌, ◌^◌, ℕ, List, [], ◌∷◌, None, Some, refl}
use Rattle.std.specs.Prelude.{codes}
use Rattle.key_types.specs.declared.key.Key.{Key}
use Rattle.profile_model.specs.Merge.{weighed}
use Rattle.profile_model.specs.Profile.{lines_of}
use Rattle.profile_model.specs.Spelled.{profile_by}
use Rattle.profile_model.specs.Text.{profile_text, text_of_lines}
use Rattle.std.specs.Fmt.{digits}
use Rattle.profile_text.specs.declared.item.Item.{Item}
use Rattle.profile_text.specs.declared.item.What.TheVariants.{Head, Count, Target}
use Rattle.profile_text.specs.Numbers.{counted}
use Rattle.profile_merge.specs.Functions.{different, roots}
use Rattle.profile_merge.specs.Hot.{counts_told}
use Rattle.profile_merge.specs.Sums.{Sums, first_over, number_at, sum_in}
use Rattle.profile_merge.specs.Told.{no_sums, sums_told}

abbrev names : List (List ℕ)
names = codes "f" ∷ codes "g" ∷ []

-- Line 1 of f, and line 2 of g below the call of g on line 3 of f.
abbrev keys : List Key
keys =
    record { root = record { 0 = 0 }; calls = []; offset = 1; disc = 0 }
    ∷ record { root = record { 0 = 0 }; calls = record { name = record { 0 = 1 }; offset = 3; disc = 0 } ∷ []; offset = 2; disc = 0 } ∷ []

-- f:7:3 / 1: 5 g:4 / 3: g:2 / 2: 2
abbrev items : List Item
items =
    record { line = 1; what = Head (record { 0 = 0 }); times = 3 } ∷ record { line = 2; what = Count (record { 0 = 0 }); times = 5 }
    ∷ record { line = 2; what = Target (record { 0 = 0 }) (record { 0 = 1 }); times = 4 } ∷ record { line = 4; what = Count (record { 0 = 1 }); times = 2 } ∷ []

-- Twice that.
abbrev sums : Sums
sums = record { heads = 6 ∷ []; counts = 10 ∷ 4 ∷ []; called = ((record { 0 = 0 }, record { 0 = 1 }), 8) ∷ [] }

numbers : ◌≡◌ {A = List ℕ} (number_at items (Target (record { 0 = 0 }) (record { 0 = 1 })) ∷ number_at items (Head (record { 0 = 1 })) ∷ []) (4 ∷ 0 ∷ [])
numbers = refl

twice : ◌≡◌ {A = List ℕ} (sum_in sums (Target (record { 0 = 0 }) (record { 0 = 1 })) ∷ sum_in sums (Count (record { 0 = 1 })) ∷ sum_in sums (Head (record { 0 = 1 })) ∷ []) (8 ∷ 4 ∷ 0 ∷ [])
twice = refl

-- What the sums say is written as the profile with its weight is.
merged : profile_text (sums_told names keys sums) ≡ profile_text (weighed 2 (counted names keys items))
unfolding profile_by text_of_lines lines_of
merged = refl

text : profile_text (sums_told names keys sums) ≡ codes "f:14:6\n 1: 10 g:8\n 3: g:4\n  2: 4\n"
unfolding text_of_lines lines_of digits
text = refl

-- 2^63 fits once, and neither twice nor together with itself.
abbrev large : List Item
large = record { line = 1; what = Head (record { 0 = 0 }); times = 2 ^ 63 } ∷ []

fits_once : first_over 1 no_sums large ≡ None
fits_once = refl

not_twice : first_over 2 no_sums large ≡ Some 1
not_twice = refl

not_again : first_over 1 (record { heads = 2 ^ 63 ∷ []; counts = []; called = [] }) large ≡ Some 1
not_again = refl

functions : ◌≡◌ {A = List ℕ} (roots keys items) (0 ∷ 0 ∷ 0 ∷ 0 ∷ [])
functions = refl

one_function : ◌≡◌ {A = ℕ} (different (roots keys items)) 1
one_function = refl

counts : counts_told items ≡ 5 ∷ 2 ∷ []
counts = refl
