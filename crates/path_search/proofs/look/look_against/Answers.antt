use Rattle.std.proofs.Common.{arith, refl}
use Rattle.std.proofs.lemmas.Int.{ints}
use Rattle.path_search.proofs.AroundLemmas.{led_back_against}
use Rattle.path_search.proofs.SearchLemmas.{looked}
use Rattle.path_search.proofs.WayLemmas.{taken_by}
use Rattle.path_search.proofs.look.look_against.Goals as goal

pub overflow_add-distance : goal.overflow_add-distance
overflow_add-distance c =
    let room = c.requires.looking.room in
    search (arith, room, c.reduced-more.ensures.small)

pub returns-clause-looking : goal.returns-clause-looking
returns-clause-looking c =
    (looked _ _ _ _ _ _ _ _ c.requires.looking c.requires.leads refl (omega arith) (omega (arith, c.reduced-more.ensures.small)) c.in_ok-offer.ensures).0

pub returns-clause-nearer : goal.returns-clause-nearer
returns-clause-nearer c =
    (looked _ _ _ _ _ _ _ _ c.requires.looking c.requires.leads refl (omega arith) (omega (arith, c.reduced-more.ensures.small)) c.in_ok-offer.ensures).1

pub reduced-more-requires-clause-fits : goal.reduced-more-requires-clause-fits
reduced-more-requires-clause-fits c =
    let order = c.requires.fits.less c.if-count-arc.false in
    omega (arith, ints, order, c.cost_of_less.ensures.value, c.cost_of_less.ensures.small.least, c.cost_of_less.ensures.small.most)

pub returns-clause-marked : goal.returns-clause-marked
returns-clause-marked c =
    let value = c.reduced-more.ensures.value in
    let cost = c.cost_of_less.ensures.value in
    taken_by _ _ _ _ _ _ _ _ _ _ _ c.requires.looking c.if-count-arc.false (omega arith) (omega (arith, ints, value, cost)) c.in_ok-offer.ensures

pub returns-then-is_within-clause-led : goal.returns-then-is_within-clause-led
returns-then-is_within-clause-led c = led_back_against _ _ _ _ _ c.requires.fits (c.is_within.ensures c.if-is_within.true)
