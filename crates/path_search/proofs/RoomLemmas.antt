-- How much a step takes.
use Rattle.std.proofs.Common.{◌≡◌, ℕ, ◌+◌, ◌-◌, ◌≤◌, Option, None, Some, inl, inr, arith, sym, ◌∙◌}
use Rattle.std.proofs.lemmas.Bool.{cases_lt}
use Rattle.flow_model.specs.declared.arc.Arc.{Arc}
use Rattle.flow_model.specs.Circulation.{IsAtMost}
use Rattle.flow_model.specs.Prices.{IsBelow}
use Rattle.residual_model.proofs.PushLemmas.{more_above, more_below, less_above, less_below}
use Rattle.reached_sides.specs.declared.mark.Way.{Way}
use Rattle.reached_sides.specs.declared.mark.Way.TheVariants.{Along, Against}
use Rattle.path_search.specs.Ways.{IsOpen, cost_of_step}
use Rattle.path_search.specs.Path.{Takes, count_after}

at_most_less : (upper : Option ℕ) (more less : ℕ) → less ≤ more → IsAtMost upper more → IsAtMost upper less
at_most_less None more less order bounded = tt
at_most_less (Some upper) more less order bounded = omega (arith, order, bounded)

-- what takes more takes less
pub less_taken : (way : Way) (arc : Arc) (n more less : ℕ) → less ≤ more → Takes way arc n more → Takes way arc n less
less_taken Along arc n more less order takes = record {
  bounded = at_most_less arc.upper (n + more) (n + less) (omega (arith, order)) takes.bounded;
  alike = λ below. let alike = takes.alike below in omega (arith, order, alike);
}
less_taken Against arc n more less order takes = record {
  bounded = let bounded = takes.bounded in omega (arith, order, bounded);
  alike = λ above. let alike = takes.alike above in omega (arith, order, alike);
}

below_still : (upper : Option ℕ) (n amount : ℕ) → IsAtMost upper (n + (amount + 1)) → IsBelow upper (n + amount)
below_still None n amount bounded = tt
below_still (Some upper) n amount bounded = omega (arith, bounded)

-- a step that takes more than an amount is left by it, at the same cost
pub left_alike : (way : Way) (arc : Arc) (n amount : ℕ) → Takes way arc n (amount + 1)
    → IsOpen way arc (count_after way n amount) × (cost_of_step way arc (count_after way n amount) ≡ cost_of_step way arc n)
left_alike Along arc n amount takes = (
  below_still arc.upper n amount takes.bounded,
  elim (cases_lt n arc.weight) [
    | inl below ↦
        let alike = takes.alike below in
        more_below arc (n + amount) (omega (arith, alike)) ∙ sym (more_below arc n below)
    | inr past ↦ more_above arc (n + amount) (omega (arith, past)) ∙ sym (more_above arc n past)
  ],
)
left_alike Against arc n amount takes =
    let bounded = takes.bounded in (
      omega (arith, bounded),
      elim (cases_lt arc.weight n) [
        | inl above ↦
            let alike = takes.alike above in
            less_above arc (n - amount) (omega (arith, alike)) ∙ sym (less_above arc n above)
        | inr within ↦
            less_below arc (n - amount) (omega (arith, bounded)) (omega (arith, within)) ∙ sym (less_below arc n (omega (arith, bounded)) within)
      ],
    )
