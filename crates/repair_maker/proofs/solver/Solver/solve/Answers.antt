use Rattle.repair_maker.proofs.AugmentationLemmas.{took_few, took_most}
use Rattle.repair_maker.proofs.solver.Solver.solve.Goals as goal

pub returns-then-fits-clause-counted : goal.returns-then-fits-clause-counted
returns-then-fits-clause-counted c =
    took_few c.args.net.now c.args.self.now c.self.inside.steps.ledger c.solve_scaled.new.steps.ledger c.self.view_is (c.fits.ensures.0 c.if-fits.true) c.solve_scaled.ensures.ticks

pub returns-then-fits-clause-few : goal.returns-then-fits-clause-few
returns-then-fits-clause-few c =
    took_most c.args.net.now c.args.self.now c.self.inside.steps.ledger c.solve_scaled.new.steps.ledger c.self.view_is (c.fits.ensures.0 c.if-fits.true) c.solve_scaled.ensures.ticks
