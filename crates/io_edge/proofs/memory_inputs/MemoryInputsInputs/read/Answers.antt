use Rattle.std.proofs.Common.{◌≡◌, ap, sym, ◌∙◌, length, rules}
use Rattle.io_edge.specs.MemoryInputs.{rest_of}
use Rattle.io_edge.proofs.Pieces.{gives}
use Rattle.io_edge.proofs.memory_inputs.MemoryInputsInputs.read.Goals as goal

pub returns-clause-bytes : goal.returns-clause-bytes
returns-clause-bytes c =
    let inside = c.self.inside in
    let rest : c.rest_of-rest.result.now ≡ rest_of inside.files.items inside.current inside.at = cc in
    let same : length c.copy_front-n.new.to ≡ length c.args.buf.now = search rules in
    let read = gives inside.files.items inside.current inside.at c.copy_front-n.result c.min.result inside.piece c.rest_of-rest.result.now c.args.buf.now c.copy_front-n.new.to c.self.invariant rest c.min.ensures c.copy_front-n.ensures.count c.copy_front-n.ensures.front same in
    (sym (ap (λ v. v.left) c.self.view_is) ∙ read.split, read.at_end)
