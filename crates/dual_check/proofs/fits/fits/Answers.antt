use Rattle.std.proofs.Common.{arith}
use Rattle.std.proofs.lemmas.Bool.{both_ways}
use Rattle.std.proofs.lemmas.Int.{ints}
use Rattle.flow_network.specs.Flow.{price_of}
use Rattle.dual_check.proofs.FitLemmas.{fits_from, more_from, less_from}
use Rattle.dual_check.proofs.fits.fits.Goals as goal

pub returns-then-fits_more : goal.returns-then-fits_more
returns-then-fits_more c =
    let price = price_of c.args.prices.now in
    let more = c.fits_more.ensures.0 c.if-fits_more.true in (
      (λ passes. fits_from price c.args.arc.now c.args.count _ _ more (c.fits_less.ensures.0 passes)
          (omega (arith, ints, c.from-head.ensures, c.from-tail.ensures, c.at.ensures, c.at-2.ensures))
          (omega (arith, ints, c.from-head.ensures, c.from-tail.ensures, c.at.ensures, c.at-2.ensures))),
      (λ fits. c.fits_less.ensures.1 (less_from price c.args.arc.now c.args.count _ fits
          (omega (arith, ints, c.from-head.ensures, c.from-tail.ensures, c.at.ensures, c.at-2.ensures)))),
    )

pub returns-else-fits_more : goal.returns-else-fits_more
returns-else-fits_more c =
    let price = price_of c.args.prices.now in (
      (λ passes. absurd (both_ways _ c.if-fits_more.false passes)),
      (λ fits. c.fits_more.ensures.1 (more_from price c.args.arc.now c.args.count _ fits
          (omega (arith, ints, c.from-head.ensures, c.from-tail.ensures, c.at.ensures, c.at-2.ensures)))),
    )
