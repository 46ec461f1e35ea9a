-- A text contains a needle exactly where it is made of a front, the needle and a rest.
use Rattle.std.proofs.Common.{◌≡◌, ℕ, suc, true, false, ◌||◌, nat_eq, List, [], ◌∷◌, ◌++◌, length, drop, refl, sym, ap, subst, arith}
use Rattle.std.specs.List.{starts_with}
use Rattle.std.proofs.lemmas.Bool.{eqb-true, or_left, or_right}
use Rattle.std.proofs.lemmas.Bool.Decides.{Decides-eqb}
use Rattle.std.proofs.lemmas.Slice.Eq.{starts_is}
use Rattle.text_model.specs.LineTests.{contains}
use Rattle.text_model.specs.Laws.{ContainsIsPart}

suc_not_zero : (n : ℕ) → suc n ≡ 0 → ⊥
suc_not_zero n is = omega (arith, is)

-- a needle in front of a text
starts_with-front : (needle rest : List ℕ) → starts_with nat_eq (needle ++ rest) needle ≡ true
starts_with-front needle rest = (starts_is Decides-eqb (needle ++ rest) needle _ refl).1 rest refl

front-starts_with : (text needle : List ℕ) → starts_with nat_eq text needle ≡ true → text ≡ needle ++ drop (length needle) text
front-starts_with text needle starts = (starts_is Decides-eqb text needle _ refl).0 starts

-- a text contains what stands in it
pub contains-parts : (front needle rest : List ℕ) → contains (front ++ (needle ++ rest)) needle ≡ true
contains-parts [] [] [] = refl
contains-parts [] [] (b ∷ rest) = refl
contains-parts [] (n ∷ needle) rest = or_left _ _ (starts_with-front (n ∷ needle) rest)
contains-parts (b ∷ front) needle rest = or_right _ _ (contains-parts front needle rest)

-- where it stands
pub parts-contains : (text needle : List ℕ) → contains text needle ≡ true → (front : List ℕ) × (rest : List ℕ) × (text ≡ front ++ (needle ++ rest))
parts-contains [] [] is = ([], [], refl)
parts-contains [] (n ∷ needle) is = absurd (suc_not_zero (length needle) (eqb-true (suc (length needle)) 0 is))
parts-contains (b ∷ text) needle is =
    elim (starts_with nat_eq (b ∷ text) needle) as (λ v. starts_with nat_eq (b ∷ text) needle ≡ v → (v || contains text needle) ≡ true → (front : List ℕ) × (rest : List ℕ) × (b ∷ text ≡ front ++ (needle ++ rest))) [
      | true ↦ λ starts _. ([], drop (length needle) (b ∷ text), front-starts_with (b ∷ text) needle starts)
      | false ↦ λ _ later. let parts = parts-contains text needle later in (b ∷ parts.0, parts.1, ap (λ (t : List ℕ). b ∷ t) parts.2)
    ] refl is

pub contains_is_part : ContainsIsPart
contains_is_part text needle = (
  λ is. parts-contains text needle is,
  λ part. subst (λ (t : List ℕ). contains t needle ≡ true) (sym part.2) (contains-parts part.0 needle part.1),
)
