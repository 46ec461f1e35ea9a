use Rattle.std.proofs.Common.{rules, tests}
use Rattle.std.proofs.lemmas.Iterator.{YieldsList-from_slice}
use Rattle.std.proofs.lemmas.Iterator.Search.{position_from_yields_List}
use Rattle.io_edge.specs.MemoryInputs.{is_named}
use Rattle.io_edge.proofs.Pieces.{leads}
use Rattle.io_edge.proofs.memory_inputs.first_named.Goals as goal

pub returns : goal.returns
returns c =
    let files = c.args.files.now in
    let first = position_from_yields_List (is_named c.args.name.now) _ _ c.position.result c.position.ensures.ran (YieldsList-from_slice files cc) (λ x b q k. search (rules, tests)) in
    let to = leads (is_named c.args.name.now) files c.position.result first in
    record { file = to.file; found = to.found }
