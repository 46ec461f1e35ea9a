use Rattle.flow_scaling.proofs.ToldLemmas.{room_for_all, told_few}
use Rattle.flow_scaling.proofs.scaled.solve_scaled.Goals as goal

pub tell-requires : goal.tell-requires
tell-requires g c = room_for_all c.args.net.now _ _ c.requires.fits c.solve_counted-solved.ensures.small c.requires.room c.solve_counted-solved.ensures.counted

pub returns-clause-ticks : goal.returns-clause-ticks
returns-clause-ticks g c = told_few c.args.net.now _ _ _ c.tell.ensures c.solve_counted-solved.ensures.counted
