-- A block has one weight.
use Rattle.std.proofs.Common.{◌≡◌, refl, ap, arith}
use Rattle.std.proofs.lemmas.Bool.Decides.{nat_tests}
use Rattle.block_model.specs.declared.parts.Weight.TheVariants.{Unknown, Known}
use Rattle.weight_model.specs.Laws.{PassingHoldsBoth, WeightIsOne}

pub weight_is_one : (K : Type 0) → WeightIsOne K
weight_is_one K key count lo hi Unknown Unknown one other = refl
weight_is_one K key count lo hi Unknown (Known n) one other =
    let found = other.attained in
    let none = one found.0 found.2 found.3 in
    let some = found.4 in
    absurd cc
weight_is_one K key count lo hi (Known m) Unknown one other =
    let found = one.attained in
    let none = other found.0 found.2 found.3 in
    let some = found.4 in
    absurd cc
weight_is_one K key count lo hi (Known m) (Known n) one other =
    let a = one.attained in
    let b = other.attained in
    let same : m ≡ n = omega (arith, a.5, b.5, one.bounded b.0 b.1 b.2 b.3 b.4, other.bounded a.0 a.1 a.2 a.3 a.4) in
    ap Known same

pub passing_holds_both : PassingHoldsBoth
passing_holds_both range before = grind (arith, nat_tests)
