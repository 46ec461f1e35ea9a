use Rattle.std.proofs.Common.{arith}
use Rattle.binary_places.proofs.ProgramLemmas.{part_length, rest_starts}
use Rattle.binary_places.proofs.programs.rest_from.Goals as goal

pub returns : goal.returns
returns c =
    let long = part_length c.args.section in
    (omega (arith, long, c.if-offset-section.false), rest_starts c.args.section c.args.offset c.if-offset-section.false)
