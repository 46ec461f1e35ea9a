use Rattle.std.proofs.Common.{ap, ◌∙◌}
use Rattle.branch_class.specs.Stretches.{class_of_stretches}
use Rattle.branch_class.proofs.StretchLemmas.{by_stretches}
use Rattle.branch_class.proofs.range.classify_range.Goals as goal

pub returns-else-from-to : goal.returns-else-from-to
returns-else-from-to g c =
    let map = c.args.map.now in
    c.class_of_stretches.ensures
    ∙ ap (λ s. class_of_stretches s c.stretch-else-from-to.result) c.stretch.ensures
    ∙ ap (λ t. class_of_stretches (g.P.Places.stretch_of map c.args.to) t) c.stretch-else-from-to.ensures
    ∙ by_stretches (g.P.Places.function_of map) (g.P.Places.stretch_of map) c.args.to c.args.from (g.met.P.Places.stretches map) c.if-from-to.false
