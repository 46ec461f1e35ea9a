use Rattle.std.proofs.Common.{ℕ, List, Option, refl}
use Rattle.flow_model.specs.Network.{arcs_of}
use Rattle.reached_sides.specs.declared.mark.Mark.{Mark}
use Rattle.reached_sides.specs.declared.mark.Way.TheVariants.{Against}
use Rattle.path_search.specs.Ground.{arc_at, count_at}
use Rattle.path_search.specs.Search.{LedAgainst}
use Rattle.path_search.proofs.RowLemmas.{row_has, row_placed}
use Rattle.path_search.proofs.AroundLemmas.{led_on_against, looked_none, looked_more, looked_all}
use Rattle.path_search.proofs.WayLemmas.{look_at, look_keeps, keep_none, keep_on}
use Rattle.path_search.proofs.around.look_back.Goals as goal

pub loop-place-init : goal.loop-place-init
loop-place-init c = record {
  looked = looked_none _ _ _ _ _ _ c.requires.looking;
  ways = keep_none c.args.net.now c.args.counts.now c.args.prices.now c.args.side c.args.distance _;
}

pub bounds-arcs-at : goal.bounds-arcs-at
bounds-arcs-at c =
    rw c.arcs-arcs.ensures.arcs (row_placed (λ arc. arc.head) _ _ _ _ _ _ refl c.arcs-arcs.ensures.of_a_function c.requires.ground c.entering-row.ensures c.loop-place-test.true).within

pub bounds-counts-at : goal.bounds-counts-at
bounds-counts-at c =
    (row_placed (λ arc. arc.head) _ _ _ _ _ _ refl c.arcs-arcs.ensures.of_a_function c.requires.ground c.entering-row.ensures c.loop-place-test.true).counted

pub look_against-requires-clause-cheap : goal.look_against-requires-clause-cheap
look_against-requires-clause-cheap c =
    rw c.arcs-arcs.ensures.arcs (row_placed (λ arc. arc.head) _ _ _ _ _ _ refl c.arcs-arcs.ensures.of_a_function c.requires.ground c.entering-row.ensures c.loop-place-test.true).cheap

pub look_against-requires-clause-fits : goal.look_against-requires-clause-fits
look_against-requires-clause-fits c =
    rw c.arcs-arcs.ensures.arcs (row_placed (λ arc. arc.head) _ _ _ _ _ _ refl c.arcs-arcs.ensures.of_a_function c.requires.ground c.entering-row.ensures c.loop-place-test.true).fits

pub look_against-requires-clause-starts : goal.look_against-requires-clause-starts
look_against-requires-clause-starts c =
    rw c.arcs-arcs.ensures.arcs (row_placed (λ arc. arc.head) _ _ _ _ _ _ refl c.arcs-arcs.ensures.of_a_function c.requires.ground c.entering-row.ensures c.loop-place-test.true).leads

pub look_against-requires-clause-leads : goal.look_against-requires-clause-leads
look_against-requires-clause-leads c =
    rw c.arcs-arcs.ensures.arcs (row_placed (λ arc. arc.head) _ _ _ _ _ _ refl c.arcs-arcs.ensures.of_a_function c.requires.ground c.entering-row.ensures c.loop-place-test.true).starts

pub loop-place-preserved : goal.loop-place-preserved
loop-place-preserved c =
    let Led : List (Option Mark) → ℕ → Type 0 = λ marks place.
    LedAgainst c.args.prices.now marks c.args.distance (arc_at (arcs_of c.args.net.now) place) (count_at c.args.counts.now place) in
    let here = rw c.arcs-arcs.ensures.arcs at c.in_ok-look_against.ensures.led in
    let ways = look_keeps c.args.net.now c.args.counts.now c.args.prices.now Against _ c.args.side c.args.distance _ _
    (look_at Against _ _ _ _ _ _ _ _ _ c.arcs-arcs.ensures.of_a_function c.requires.ground c.entering-row.ensures c.loop-place-test.true c.loop-place.invariant.looked.looking)
    c.in_ok-look_against.ensures.nearer (rw c.arcs-arcs.ensures.arcs at c.in_ok-look_against.ensures.marked) in
    record {
      looked = looked_more Led _ _ _ _ _ _ _ _ _ (λ place nearer led. led_on_against _ _ _ _ (arc_at (arcs_of c.args.net.now) place) (count_at c.args.counts.now place) nearer led)
          c.loop-place.invariant.looked c.in_ok-look_against.ensures.looking c.in_ok-look_against.ensures.nearer here;
      ways = keep_on c.args.net.now c.args.counts.now c.args.prices.now c.args.side c.args.distance _ _ _ c.loop-place.invariant.ways ways;
    }

pub returns-clause-back : goal.returns-clause-back
returns-clause-back c = λ place within ends.
    let Led : List (Option Mark) → ℕ → Type 0 = λ marks place.
    LedAgainst c.args.prices.now marks c.args.distance (arc_at (arcs_of c.args.net.now) place) (count_at c.args.counts.now place) in
    let has = row_has (λ arc. arc.head) (arcs_of c.args.net.now) c.args.side place refl within ends in
    looked_all Led _ _ _ _ _ _ _ place c.loop-place.invariant.looked c.loop-place-test.false (rw c.entering-row.ensures has)
