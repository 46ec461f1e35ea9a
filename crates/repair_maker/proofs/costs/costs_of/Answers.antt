use Rattle.std.proofs.Common.{◌≡◌, ℕ, List, Option, map, subst}
use Rattle.std.specs.Prelude.{IfOk}
use Rattle.std.specs.List.{AllZip}
use Rattle.block_weights.specs.Counts.{count_in}
use Rattle.cfg_text.specs.Fun.{function_of}
use Rattle.key_types.specs.declared.places.Seg.{Seg}
use Rattle.key_types.specs.Segments.{key_told}
use Rattle.output_model.specs.Summary.{IsRepairCost, costs_in, cuts_in}
use Rattle.repair_maker.proofs.costs.costs_of.Goals as goal

pub returns : goal.returns
returns c =
    let is = c.in_ok-counted.ensures in
    subst (λ (counts : List ℕ). IfOk c.costs_by.result (λ made. (costs : List (Option ℕ))
    × AllZip (IsRepairCost (key_told c.args.segments.now) (count_in counts)) (map function_of c.args.funs.now) costs × (made.cost ≡ costs_in costs) × (made.cuts ≡ cuts_in costs))) is.counts
    (subst (λ (segments : List Seg). IfOk c.costs_by.result (λ made. (costs : List (Option ℕ))
    × AllZip (IsRepairCost (key_told segments) (count_in c.in_ok-counted.counted.counts)) (map function_of c.args.funs.now) costs × (made.cost ≡ costs_in costs) × (made.cuts ≡ cuts_in costs))) is.segments
    c.costs_by.ensures)
