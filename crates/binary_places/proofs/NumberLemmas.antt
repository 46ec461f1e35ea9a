-- Members whose names are numbered by their own places are as they are told.
use Rattle.std.proofs.Common.{◌≡◌, ℕ, zero, suc, ◌+◌, List, [], ◌∷◌, drop, Option, None, Some, refl, ap, ◌∙◌, add-one}
use Rattle.std.specs.Prelude.{slice_get, unwrap_or}
use Rattle.std.specs.Option.{option_map}
use Rattle.entry_facts.specs.Meaning.{IsNumberOf}
use Rattle.tree_model.specs.Members.{Told}
use Rattle.inline_tree.specs.Told.{AreTold}
use Rattle.binary_model.specs.Places.{names_of, numbered_from}

number-is : (names : List (List ℕ)) (n : ℕ) (name : Option (List ℕ)) → slice_get names n ≡ Some (unwrap_or name [])
    → IsNumberOf names name (option_map (λ _. record { 0 = n }) name)
number-is names n None is = refl
number-is names n (Some name) is = (refl, is)

first-is : {X : Type 0} (xs : List X) (n : ℕ) (x : X) (rest : List X) → drop n xs ≡ x ∷ rest → slice_get xs n ≡ Some x
first-is [] zero x rest is = absurd cc
first-is [] (suc n) x rest is = absurd cc
first-is (y ∷ xs) zero x rest is = let same : y ≡ x = cc in ap (λ z. Some z) same
first-is (y ∷ xs) (suc n) x rest is = first-is xs n x rest is

behind-is : {X : Type 0} (xs : List X) (n : ℕ) (x : X) (rest : List X) → drop n xs ≡ x ∷ rest → drop (suc n) xs ≡ rest
behind-is [] zero x rest is = absurd cc
behind-is [] (suc n) x rest is = absurd cc
behind-is (y ∷ xs) zero x rest is = cc
behind-is (y ∷ xs) (suc n) x rest is = behind-is xs n x rest is

told-from : (names : List (List ℕ)) (n : ℕ) (tolds : List Told) → drop n names ≡ names_of tolds → AreTold names tolds (numbered_from n tolds)
told-from names n [] is = tt
told-from names n (told ∷ rest) is = (
  record {
    depth_is = refl;
    unit_is = refl;
    name_is = number-is names n told.name (first-is names n (unwrap_or told.name []) (names_of rest) is);
    start_is = refl;
    line_is = refl;
    disc_is = refl;
    pieces_are = refl;
  },
  told-from names (n + 1) rest (ap (λ k. drop k names) (add-one n) ∙ behind-is names n (unwrap_or told.name []) (names_of rest) is),
)

pub are-told : (tolds : List Told) → AreTold (names_of tolds) tolds (numbered_from 0 tolds)
are-told tolds = told-from (names_of tolds) 0 tolds refl
