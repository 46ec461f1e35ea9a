use Rattle.std.proofs.Common.{◌≡◌}
use Rattle.line_model.specs.Opcodes.{standard_opcodes}
use Rattle.line_program.proofs.TableLemmas.{look_up-place}
use Rattle.line_program.proofs.tables.standard_place.Goals as goal

pub returns : goal.returns
returns c =
    let same : c.from.result ≡ c.args.opcode = c.from.ensures in
    rw (c.index_of.ensures, ← same) (look_up-place standard_opcodes c.from.result)
