use Rattle.std.proofs.Common.{arith}
use Rattle.std.specs.Prelude.{pos}
use Rattle.std.proofs.lemmas.Int.{ints}
use Rattle.path_search.proofs.steps.reduced.Goals as goal

pub overflow_cast-result : goal.overflow_cast-result
overflow_cast-result c =
    let from = c.requires.small c.args.from (pos 0) c.requires.starts in
    let to = c.requires.small c.args.to (pos 0) c.requires.leads in
    search (arith, ints, from.least, from.most, to.least, to.most, c.requires.cheap.least, c.requires.cheap.most, c.requires.fits)

pub returns-clause-value : goal.returns-clause-value
returns-clause-value c =
    let from = c.requires.small c.args.from (pos 0) c.requires.starts in
    let to = c.requires.small c.args.to (pos 0) c.requires.leads in
    omega (arith, ints, from.least, from.most, to.least, to.most, c.requires.cheap.least, c.requires.cheap.most, c.requires.fits)

pub returns-clause-small : goal.returns-clause-small
returns-clause-small c =
    let from = c.requires.small c.args.from (pos 0) c.requires.starts in
    let to = c.requires.small c.args.to (pos 0) c.requires.leads in
    omega (arith, ints, from.least, from.most, to.least, to.most, c.requires.cheap.least, c.requires.cheap.most, c.requires.fits)
