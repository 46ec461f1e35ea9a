-- Prices and the steps that counts leave.
use Rattle.std.proofs.Common.{ℕ, ◌-◌, ◌<◌, arith, inl, inr}
use Rattle.std.specs.Prelude.{ℤ, pos, ◌+ℤ◌, ◌-ℤ◌, ◌≤ℤ◌}
use Rattle.std.proofs.lemmas.Bool.{cases_lt}
use Rattle.std.proofs.lemmas.Int.{ints}
use Rattle.flow_model.specs.Prices.{FitsOn}
use Rattle.flow_model.proofs.ArcLemmas.{each_from, each_from_both}
use Rattle.residual_model.specs.Residual.{StepsOn, reduced, moved}
use Rattle.residual_model.specs.Laws.{StepsJudgePrices, MovedPricesFit}

not_below : (rise cost : ℤ) → rise ≤ℤ cost → pos 0 ≤ℤ (cost -ℤ rise)
not_below rise cost order = omega (arith, ints, order)

order_from : (rise cost : ℤ) → pos 0 ≤ℤ (cost -ℤ rise) → rise ≤ℤ cost
order_from rise cost order = omega (arith, ints, order)

pub steps_judge_prices : StepsJudgePrices
steps_judge_prices price arcs counts =
    let P : ℕ → ℕ → ℤ → Type 0 = λ from to cost. pos 0 ≤ℤ reduced price from to cost in (
      (λ fits. each_from (FitsOn price) (StepsOn P)
          (λ arc n here. record { along = λ below. not_below _ _ (here.more below); against = λ above. not_below _ _ (here.less above) })
          arcs counts fits),
      (λ steps. each_from (StepsOn P) (FitsOn price)
          (λ arc n here. record { more = λ below. order_from _ _ (here.along below); less = λ above. order_from _ _ (here.against above) })
          arcs counts steps),
    )

-- one step, from a price p at distance d to a price q at distance e
moved_step : (p q cost : ℤ) (d e limit : ℕ) → (q -ℤ p) ≤ℤ cost → (d < limit → pos e ≤ℤ (pos d +ℤ (cost -ℤ (q -ℤ p))))
    → ((q -ℤ pos (limit - e)) -ℤ (p -ℤ pos (limit - d))) ≤ℤ cost
moved_step p q cost d e limit fits holds =
    elim (cases_lt d limit) [
      | inl near ↦ omega (arith, ints, holds near, near)
      | inr far ↦ omega (arith, ints, fits, far)
    ]

pub moved_prices_fit : MovedPricesFit
moved_prices_fit price distance limit arcs counts fits holds =
    let P : ℕ → ℕ → ℤ → Type 0 = λ from to cost. distance from < limit → pos (distance to) ≤ℤ (pos (distance from) +ℤ reduced price from to cost) in
    each_from_both (FitsOn price) (StepsOn P) (FitsOn (moved price distance limit))
    (λ arc n here also. record {
      more = λ below. moved_step (price arc.tail) (price arc.head) _ (distance arc.tail) (distance arc.head) limit (here.more below) (also.along below);
      less = λ above. moved_step (price arc.head) (price arc.tail) _ (distance arc.head) (distance arc.tail) limit (here.less above) (also.against above);
    })
    arcs counts fits holds
