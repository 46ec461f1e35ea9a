-- What is packed is read.
use Rattle.std.proofs.Common.{◌≡◌, ℕ, ◌+◌, ◌*◌, ◌<◌, max, Bool, true, false, cond, ◌&&◌, nat_eq, refl, sym, ap, ◌∙◌, arith}
use Rattle.std.proofs.lemmas.Bool.Decides.{nat_tests}
use Rattle.key_types.specs.Discriminators.{component, rest, split}
use Rattle.key_types.specs.SplitLaws.{encoded, values, packed, SplitReadsWhatIsPacked}

-- the first number is read, and what stands behind it
component-encoded : (n more : ℕ) → n < 4096 → component (encoded n + values n * more) ≡ n
component-encoded n more small = grind (arith, nat_tests)

rest-encoded : (n more : ℕ) → n < 4096 → rest (encoded n + values n * more) ≡ more
rest-encoded n more small = grind (arith, nat_tests)

component-alone : (n : ℕ) → n < 4096 → component (encoded n) ≡ n
component-alone n small =
    let none : encoded n ≡ encoded n + values n * 0 = omega arith in ap component none ∙ component-encoded n 0 small

rest-alone : (n : ℕ) → n < 4096 → rest (encoded n) ≡ 0
rest-alone n small =
    let none : encoded n ≡ encoded n + values n * 0 = omega arith in ap rest none ∙ rest-encoded n 0 small

-- the pair that two numbers stand for
pair : ℕ → ℕ → ℕ × ℕ
pair base factor = (base, cond (nat_eq factor 0) 1 factor)

split-is : (d base factor : ℕ) → component d ≡ base → component (rest d) ≡ factor → split d ≡ pair base factor
unfolding split pair
split-is d base factor first second = cc

pair-is : (base factor : ℕ) → pair base factor ≡ (base, max factor 1)
unfolding pair
pair-is base factor = ap (λ (n : ℕ). (base, n)) (grind (arith, nat_tests))

split-nothing : split 0 ≡ pair 0 0
unfolding split pair
split-nothing = refl

split-one : (base : ℕ) → base < 4096 → split (encoded base) ≡ pair base 0
split-one base small = split-is (encoded base) base 0 (component-alone base small) (ap component (rest-alone base small))

split-both : (base factor : ℕ) → base < 4096 → factor < 4096 → split (encoded base + values base * encoded factor) ≡ pair base factor
split-both base factor small small' =
    split-is (encoded base + values base * encoded factor) base factor (component-encoded base (encoded factor) small)
    (ap component (rest-encoded base (encoded factor) small) ∙ component-alone factor small')

zero-from_test : (n : ℕ) → nat_eq n 0 ≡ true → n ≡ 0
zero-from_test n is = grind (arith, nat_tests)

-- by whether either number is 0
split-cases : (base factor : ℕ) → base < 4096 → factor < 4096 → (b f : Bool) → nat_eq base 0 ≡ b → nat_eq factor 0 ≡ f
    → split (cond (b && f) 0 (cond f (encoded base) (encoded base + values base * encoded factor))) ≡ pair base factor
split-cases base factor small small' true true none none' =
    split-nothing ∙ ap (λ n. pair n 0) (sym (zero-from_test base none)) ∙ ap (pair base) (sym (zero-from_test factor none'))
split-cases base factor small small' false true some none' = split-one base small ∙ ap (pair base) (sym (zero-from_test factor none'))
split-cases base factor small small' true false none some' = split-both base factor small small'
split-cases base factor small small' false false some some' = split-both base factor small small'

split-packed : (base factor : ℕ) → base < 4096 → factor < 4096 → split (packed base factor) ≡ pair base factor
split-packed base factor small small' = split-cases base factor small small' (nat_eq base 0) (nat_eq factor 0) refl refl

pub packed_is_read : SplitReadsWhatIsPacked
packed_is_read base factor small small' = split-packed base factor small small' ∙ pair-is base factor
